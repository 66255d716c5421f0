-- Lines inside the profile that tell of no id as an IRI and as a literal: the facts that they give are allowed and have no lone
-- literal, and their lines are those lines. Assumes nothing.
use Prim.Native.Nat.{ℕ}
use mathlib.Core.Path.{◌≡◌, refl, sym, ap, subst, ◌∙◌}
use mathlib.Core.Bool.{Bool, true, false}
use mathlib.Core.Logic.{inl, inr}
use mathlib.Core.List.{List}
use native.Mathlib.Omega.{arith}
use lib.Dec.{T}
use Rattle.rdfs.specs.Numbers.{product}
use Rattle.rdfs.specs.Lists.{◌∈◌, ◌⊆◌, concat_map, any}
use Rattle.rdfs.specs.Facts.{Fact, ind, lit, kind, first, second}
use Rattle.rdfs.specs.Words.{allowed}
use Rattle.rdfs.proofs.Lists.ListLaws.{any_in}
use Rattle.rdfs.proofs.Words.Allowed.{fields, ids_allowed}
use Rattle.table.proofs.TestAnswers.{is_false}
use Rattle.triple_form.specs.Lines.{Line, in_profile}
use Rattle.triples.specs.Texts.{literal_in, as_line, lines_for}
use Rattle.triples.specs.TextRead.{given, told_twice}
use Rattle.triples.specs.Lone.{is_value, is_lone}
use Rattle.triples.proofs.Given.{Inside, inside_parts, no_line, of_kind_lem, own, member, literal, gives, gives_own}
use Rattle.triples.proofs.Given.{gives_literal, parts_told_twice}
use Rattle.triples.proofs.Written.{in_lines, lines_in, literal_parts, parts_literal, lone_parts, is_value_lem}

module _ (L : List Line) (within : (x : Line) → x ∈ L → T (in_profile product.top x)) where
  abbrev G : List Fact
  G = concat_map given L

  parts : (x : Line) → x ∈ L → Inside product.top x
  parts x i = inside_parts product.top x (within x i)

  pub given_allowed : (f : Fact) → f ∈ G → T (allowed product.top f)
  given_allowed f i =
      let r = gives L f i in
      let p = parts r.0 r.1 in
      let q = fields product.top r.0.fact p.may_be in
      elim r.2 [
        | own e ↦ subst (λ g. T (allowed product.top g)) (sym e) p.may_be
        | member c e ↦ subst (λ g. T (allowed product.top g)) (sym e)
            (ids_allowed product.top (ind (first r.0.fact)) (q.one, q.one_mark))
        | literal l e ↦ let v = p.value l in
            subst (λ g. T (allowed product.top g)) (sym e)
            (ids_allowed product.top (lit (second r.0.fact)) (q.two, λ z. omega (arith, v.1, z)))
      ]

  -- A literal among them is that of a value's line.
  given_value : (n : ℕ) → lit n ∈ G → (x : Line) × (x ∈ L) × T x.literal × (second x.fact ≡ n)
  given_value n i = let r = gives L (lit n) i in
      elim r.2 [
        | own e ↦ absurd (no_line r.0.fact (parts r.0 r.1).has_line_lem (inr (sym (ap kind e))))
        | member c e ↦ absurd (omega (arith, ap kind e))
        | literal l e ↦ (r.0, r.1, l, sym (ap first e))
      ]

  -- A list of the same facts.
  module _ (whole : told_twice L ≡ false) (F : List Fact) (to : F ⊆ G) (from : G ⊆ F) where
    pub read_no_lone : any (is_lone F) F ≡ false
    read_no_lone = is_false (λ t.
        let r = any_in (is_lone F) F t in
        let q = lone_parts F r.0 r.2 in
        let l : lit (first r.0) ∈ G = subst (λ g. g ∈ G) (of_kind_lem r.0 4 q.0) (to r.0 r.1) in
        let v = given_value (first r.0) l in
        q.1 (subst (λ n. T (is_value F n)) v.3 (is_value_lem F v.0.fact (from v.0.fact (gives_own L v.0 v.1))
        ((parts v.0 v.1).value v.2).0)))

    -- A line is the line of its own fact among them.
    same_line : (x : Line) → x ∈ L → x ≡ as_line F x.fact
    same_line x i = ap (λ b. record { fact = x.fact; literal = b }) (same_test x.literal (literal_in F x.fact)
        (λ l. parts_literal F x.fact ((parts x i).value l).0 (from (lit (second x.fact)) (gives_literal L x i l)))
        (λ n l.
        let q = literal_parts F x.fact l in
        let y = given_value (second x.fact) (to (lit (second x.fact)) q.1) in
        subst T whole (parts_told_twice L record {
          iri = x;
          iri_in = i;
          iri_value = q.0;
          iri_is = n;
          other = y.0;
          other_in = y.1;
          other_is = y.2;
          same_id = y.3;
        })))
      where
        same_test : (a b : Bool) → (T a → T b) → ((T a → ⊥) → T b → ⊥) → a ≡ b
        same_test true true f g = refl
        same_test true false f g = absurd (f tt)
        same_test false true f g = absurd (g (λ t. t) tt)
        same_test false false f g = refl

    pub read_lines : L ⊆ lines_for F F
    read_lines x i = subst (λ y. y ∈ lines_for F F) (sym (same_line x i))
        (lines_in F F x.fact (from x.fact (gives_own L x i)) (parts x i).has_line_lem)

    pub lines_read_lem : lines_for F F ⊆ L
    lines_read_lem x i =
        let r = in_lines F F x i in
        let q = gives L r.0 (to r.0 r.1) in
        elim q.2 [
          | own e ↦ subst (λ y. y ∈ L) (same_line q.0 q.1 ∙ (ap (as_line F) (sym e) ∙ sym r.3)) q.1
          | member c e ↦ absurd (no_line r.0 r.2 (inl (ap kind e)))
          | literal l e ↦ absurd (no_line r.0 r.2 (inr (ap kind e)))
        ]
