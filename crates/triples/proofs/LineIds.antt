-- The ids that the lines of a text have as literals, as IRIs of values and as members of Resource. Assumes nothing.
use Prim.Native.Nat.{ℕ, ◌≤◌}
use mathlib.Core.Path.{◌≡◌, refl, ◌∙◌}
use mathlib.Core.Bool.{Bool, not, ◌&&◌}
use mathlib.Core.List.{List}
use native.Mathlib.Omega.{arith}
use lib.Dec.{T, eqb, eqb→eq}
use Rattle.rdfs.specs.Numbers.{product}
use Rattle.rdfs.specs.Lists.{◌∈◌, any}
use Rattle.rdfs.specs.Facts.{kind, first, second}
use Rattle.rdfs.proofs.Lists.Tests.{and_both}
use Rattle.rdfs.proofs.Lists.ListLaws.{any_in}
use Rattle.rdfs.proofs.Words.Allowed.{Fields, fields}
use Rattle.table.proofs.TestAnswers.{is_false}
use Rattle.flags.specs.Flags.{Says}
use Rattle.triple_form.specs.Lines.{Line, in_profile}
use Rattle.triples.specs.TextRead.{lines_read, as_literal, as_iri, is_member}
use Rattle.triples.specs.Storing.{Flagged}
use Rattle.triples.proofs.Given.{inside_parts}
use Rattle.triples.proofs.LinesRead.{top, read_profile}

-- A line inside the profile.
module _ (x : Line) (h : T (in_profile top x)) where
  line_fields : Fields top x.fact
  line_fields = fields top x.fact (inside_parts top x h).may_be

-- The id that a line has.
module _ (n : ℕ) (x : Line) where
  pub literal_is : T (as_literal n x) → T x.literal × (second x.fact ≡ n)
  literal_is t = let p = and_both x.literal _ t in (p.0, eqb→eq (second x.fact) n p.1)

  pub iri_is : T (as_iri n x) → second x.fact ≡ n
  iri_is t = eqb→eq (second x.fact) n (and_both (eqb (kind x.fact) 10 && not x.literal) _ t).1

  pub member_is : T (is_member n x) → first x.fact ≡ n
  member_is t = eqb→eq (first x.fact) n (and_both (eqb (kind x.fact) 9 && eqb (second x.fact) 0) _ t).1

-- They are ids, and the mark is none of them.
module _ (text : List ℕ) where
  abbrev lines : List Line
  lines = lines_read top text

  module _ {x : Line} (m : x ∈ lines_read top text) where
    pub first_id : first x.fact ≤ product.top
    first_id = (line_fields x (read_profile text x m)).one

    pub second_id : second x.fact ≤ product.top
    second_id = (line_fields x (read_profile text x m)).two

  pub members_flagged : {members : List Bool} → Says members (λ n. any (is_member n) (lines_read top text))
      → Flagged 3 members
  members_flagged s = record {
    kind = refl;
    no_mark = s.at 1 ∙ is_false (λ t. let r = any_in (is_member 1) lines t in
        (line_fields r.0 (read_profile text r.0 r.1)).one_mark (member_is 1 r.0 r.2));
  }

  pub literals_flagged : {literals : List Bool} → Says literals (λ n. any (as_literal n) (lines_read top text))
      → Flagged 4 literals
  literals_flagged s = record {
    kind = refl;
    no_mark = s.at 1 ∙ is_false (λ t. let r = any_in (as_literal 1) lines t in
        let q = literal_is 1 r.0 r.2 in
        omega (arith, q.1, ((inside_parts top r.0 (read_profile text r.0 r.1)).value q.0).1));
  }
