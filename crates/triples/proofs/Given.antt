-- Lines inside the profile, and the facts that lines give. Assumes nothing.
use Prim.Native.Nat.{ℕ, ◌≤◌}
use mathlib.Core.Path.{◌≡◌, refl, sym, ap, subst, ◌∙◌}
use mathlib.Core.Bool.{Bool, true, false, not, ◌&&◌, ◌||◌, cond}
use mathlib.Core.Logic.{◌⊎◌, inl, inr, ⊎_elim}
use mathlib.Core.List.{List, [], ◌∷◌}
use lib.Dec.{T, eqb, leb, eqb→eq, leb→le, le→leb, T_not, not_T}
use Rattle.rdfs.specs.Lists.{◌∈◌, ◌⊆◌, here, there, concat_map, any}
use Rattle.rdfs.specs.Facts.{Fact, ind, lit, ci, kind, first, second, third, made}
use Rattle.rdfs.specs.Words.{allowed}
use Rattle.rdfs.proofs.Lists.Tests.{and_both, both_and, either_or, or_either, tests_eq}
use Rattle.rdfs.proofs.Lists.ListLaws.{in_one, none_in, in_cons, in_append, in_append_left, in_append_right}
use Rattle.rdfs.proofs.Lists.ListLaws.{in_concat_map, concat_map_in, any_in, in_any}
use Rattle.rdfs.proofs.Words.FactLaws.{made_of}
use Rattle.triple_form.specs.Lines.{Line, has_line, in_profile}
use Rattle.triples.specs.TextRead.{is_member, given, as_literal, as_iri, told_twice}

-- A test that holds if another does.
pub if_then : (a b : Bool) → (T a → T b) → T (not a || b)
if_then true b h = h tt
if_then false b h = tt

pub then_if : (a b : Bool) → T (not a || b) → T a → T b
then_if true b h t = h
then_if false b h t = absurd t

-- A fact of a kind by its ids.
pub of_kind_lem : (f : Fact) (k : ℕ) → kind f ≡ k → f ≡ made k (first f) (second f) (third f)
of_kind_lem f k e = sym (made_of f) ∙ ap (λ n. made n (first f) (second f) (third f)) e

pub no_line : (f : Fact) → T (has_line f) → (kind f ≡ 3) ⊎ (kind f ≡ 4) → ⊥
no_line f t o = T_not (eqb (kind f) 3 || eqb (kind f) 4) t (either_or (eqb (kind f) 3) (eqb (kind f) 4) (⊎_elim
    (λ e. inl ((tests_eq (kind f) 3).complete e)) (λ e. inr ((tests_eq (kind f) 4).complete e)) o))

pub line_has : (f : Fact) → (kind f ≡ 3 → ⊥) → (kind f ≡ 4 → ⊥) → T (has_line f)
line_has f a b = not_T (eqb (kind f) 3 || eqb (kind f) 4) (λ t. ⊎_elim (λ q. a (eqb→eq (kind f) 3 q))
    (λ q. b (eqb→eq (kind f) 4 q)) (or_either (eqb (kind f) 3) (eqb (kind f) 4) t))

-- A line inside the profile, part by part.
pub record Inside (top : ℕ) (x : Line) : Type 0 where
  pub has_line_lem : T (has_line x.fact)
  pub may_be : T (allowed top x.fact)
  pub value : T x.literal → (kind x.fact ≡ 10) × (2 ≤ second x.fact)

module _ (top : ℕ) (x : Line) where
  abbrev last : Bool
  last = eqb (kind x.fact) 10 && leb 2 (second x.fact)

  pub inside_parts : T (in_profile top x) → Inside top x
  inside_parts t =
      let a = and_both (has_line x.fact) (allowed top x.fact && (not x.literal || last)) t in
      let b = and_both (allowed top x.fact) (not x.literal || last) a.1 in
      record {
        has_line_lem = a.0;
        may_be = b.0;
        value = λ h. let c = and_both (eqb (kind x.fact) 10) (leb 2 (second x.fact))
            (then_if x.literal last b.1 h) in (eqb→eq (kind x.fact) 10 c.0, leb→le 2 (second x.fact) c.1);
      }

  pub parts_inside : Inside top x → T (in_profile top x)
  parts_inside p = both_and (has_line x.fact) (allowed top x.fact && (not x.literal || last)) p.has_line_lem
      (both_and (allowed top x.fact) (not x.literal || last) p.may_be (if_then x.literal last
      (λ h. let v = p.value h in both_and (eqb (kind x.fact) 10) (leb 2 (second x.fact))
      ((tests_eq (kind x.fact) 10).complete v.0) (le→leb 2 (second x.fact) v.1))))

module _ {A : Type 0} where
  in_when : (b : Bool) {x y : A} → x ∈ cond b (y ∷ []) [] → T b × (x ≡ y)
  in_when true h = (tt, in_one h)
  in_when false h = absurd (none_in h)

  when_in : (b : Bool) (y : A) → T b → y ∈ cond b (y ∷ []) []
  when_in true y t = here refl
  when_in false y t = absurd t

-- A fact that a line gives: its own, the individual of a member of class 0, or a literal.
pub data Gives (x : Line) (f : Fact) : Type 0 where
  own : f ≡ x.fact → Gives x f
  member : x.fact ≡ ci (first x.fact) 0 → f ≡ ind (first x.fact) → Gives x f
  literal : T x.literal → f ≡ lit (second x.fact) → Gives x f

module _ (x : Line) where
  abbrev g : Fact
  g = x.fact

  pub member_fact : (n : ℕ) → T (is_member n x) → g ≡ ci n 0
  member_fact n t =
      let a = and_both (eqb (kind g) 9 && eqb (second g) 0) (eqb (first g) n) t in
      let b = and_both (eqb (kind g) 9) (eqb (second g) 0) a.0 in
      of_kind_lem g 9 (eqb→eq (kind g) 9 b.0) ∙ λ i. ci (eqb→eq (first g) n a.1 i) (eqb→eq (second g) 0 b.1 i)

  pub fact_member : (n : ℕ) → g ≡ ci n 0 → T (is_member n x)
  fact_member n e = both_and (eqb (kind g) 9 && eqb (second g) 0) (eqb (first g) n)
      (both_and (eqb (kind g) 9) (eqb (second g) 0) ((tests_eq (kind g) 9).complete (ap kind e))
      ((tests_eq (second g) 0).complete (ap second e))) ((tests_eq (first g) n).complete (ap first e))

  pub in_given : (f : Fact) → f ∈ given x → Gives x f
  in_given f h = ⊎_elim own (λ k. ⊎_elim (λ m. let r = in_when (is_member (first g) x) m in
      member (member_fact (first g) r.0) r.1)
      (λ l. let r = in_when x.literal l in literal r.0 r.1)
      (in_append (cond (is_member (first g) x) (ind (first g) ∷ []) []) k)) (in_cons h)

  pub given_own : g ∈ given x
  given_own = here refl

  pub given_member : (a : ℕ) → g ≡ ci a 0 → ind a ∈ given x
  given_member a e =
      let same : first g ≡ a = ap first e in
      let yes : T (is_member (first g) x) = fact_member (first g) (e ∙ ap (λ n. ci n 0) (sym same)) in
      subst (λ n. ind n ∈ given x) same (there (in_append_left (cond x.literal (lit (second g) ∷ []) [])
      (when_in (is_member (first g) x) (ind (first g)) yes)))

  pub given_literal : T x.literal → lit (second g) ∈ given x
  given_literal t = there (in_append_right (cond (is_member (first g) x) (ind (first g) ∷ []) [])
      (when_in x.literal (lit (second g)) t))

-- Some lines give a fact exactly if one of them does.
pub gives : (L : List Line) (f : Fact) → f ∈ concat_map given L → (x : Line) × (x ∈ L) × Gives x f
gives L f h = let r = in_concat_map given L h in (r.0, r.1, in_given r.0 f r.2)

pub gives_own : (L : List Line) (x : Line) → x ∈ L → x.fact ∈ concat_map given L
gives_own L x h = concat_map_in given h (given_own x)

pub gives_literal : (L : List Line) (x : Line) → x ∈ L → T x.literal → lit (second x.fact) ∈ concat_map given L
gives_literal L x h t = concat_map_in given h (given_literal x t)

pub gives_member : (L : List Line) (x : Line) → x ∈ L → (a : ℕ) → x.fact ≡ ci a 0 → ind a ∈ concat_map given L
gives_member L x h a e = concat_map_in given h (given_member x a e)

-- Lines that tell of one id as an IRI and as a literal.
pub record ToldTwice (L : List Line) : Type 0 where
  pub iri : Line
  pub iri_in : iri ∈ L
  pub iri_value : kind iri.fact ≡ 10
  pub iri_is : T iri.literal → ⊥
  pub other : Line
  pub other_in : other ∈ L
  pub other_is : T other.literal
  pub same_id : second other.fact ≡ second iri.fact

module _ (L : List Line) where
  abbrev pub told_twice_by : Line → Bool
  told_twice_by x = as_iri (second x.fact) x && any (as_literal (second x.fact)) L

  pub told_twice_parts : T (told_twice L) → ToldTwice L
  told_twice_parts t =
      let r = any_in told_twice_by L t in
      let x : Line = r.0 in
      let n : ℕ = second x.fact in
      let a = and_both (as_iri n x) (any (as_literal n) L) r.2 in
      let b = and_both (eqb (kind x.fact) 10 && not x.literal) (eqb n n) a.0 in
      let c = and_both (eqb (kind x.fact) 10) (not x.literal) b.0 in
      let o = any_in (as_literal n) L a.1 in
      let d = and_both o.0.literal (eqb (second o.0.fact) n) o.2 in
      record {
        iri = x;
        iri_in = r.1;
        iri_value = eqb→eq (kind x.fact) 10 c.0;
        iri_is = T_not x.literal c.1;
        other = o.0;
        other_in = o.1;
        other_is = d.0;
        same_id = eqb→eq (second o.0.fact) n d.1;
      }

  pub parts_told_twice : ToldTwice L → T (told_twice L)
  parts_told_twice p =
      let x : Line = p.iri in
      let n : ℕ = second x.fact in
      let a : T (eqb (kind x.fact) 10 && not x.literal) = both_and (eqb (kind x.fact) 10) (not x.literal)
      ((tests_eq (kind x.fact) 10).complete p.iri_value) (not_T x.literal p.iri_is) in
      let b : T (as_iri n x) = both_and (eqb (kind x.fact) 10 && not x.literal) (eqb n n) a ((tests_eq n n).complete refl) in
      let c : T (as_literal n p.other) = both_and p.other.literal (eqb (second p.other.fact) n) p.other_is
      ((tests_eq (second p.other.fact) n).complete p.same_id) in
      in_any told_twice_by p.iri_in (both_and (as_iri n x) (any (as_literal n) L) b (in_any (as_literal n) p.other_in c))

pub told_twice_sub : (L M : List Line) → L ⊆ M → T (told_twice L) → T (told_twice M)
told_twice_sub L M s t = let p = told_twice_parts L t in
    parts_told_twice M record {
      iri = p.iri;
      iri_in = s p.iri p.iri_in;
      iri_value = p.iri_value;
      iri_is = p.iri_is;
      other = p.other;
      other_in = s p.other p.other_in;
      other_is = p.other_is;
      same_id = p.same_id;
    }
