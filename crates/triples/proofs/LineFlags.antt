-- The flags that one line adds: of its literal, of the IRI that is its value, of its member. Assumes nothing.
use Prim.Native.Nat.{ℕ, ◌<◌}
use mathlib.Core.Path.{◌≡◌, sym, ap, subst, ◌∙◌}
use mathlib.Core.Bool.{Bool, true, false, not, ◌&&◌, ◌||◌, or-false, and-false}
use mathlib.Core.List.{List}
use native.Mathlib.Omega.{arith}
use lib.Dec.{T, eqb}
use lib.ListN.{length, set}
use borrow.Author.Tests.{eq-eqb, ne_eqb}
use Rattle.rdfs.specs.Numbers.{product}
use Rattle.rdfs.specs.Facts.{Fact, kind, first, second}
use Rattle.rdfs.specs.Words.{fact, is_fact}
use Rattle.rdfs.proofs.Lists.Tests.{tests_eq, tests_as, tests_agree}
use Rattle.table.specs.Parts.{kind_of, first_of, second_of}
use Rattle.table.proofs.FactParts.{fact_kind_lem, fact_first, fact_second}
use Rattle.table.proofs.TestAnswers.{is_false}
use Rattle.flags.specs.Flags.{flagged, Whole, Adds}
use Rattle.flags.proofs.Added.{adds_set, adds_as}
use Rattle.triple_form.specs.Lines.{in_profile}
use Rattle.triple_form.specs.LineRead.{word_line}
use Rattle.triples.specs.TextRead.{as_literal, as_iri, is_member}
use Rattle.triples.proofs.Given.{inside_parts}

-- No flag is added.
adds_no : {old new : List Bool} (test : ℕ → Bool) → new ≡ old → ((n : ℕ) → test n ≡ false) → Adds old new test
adds_no {old} test e h = subst (λ m. Adds old m test) (sym e) (record {
  at = λ n. sym (ap (λ b. flagged old n || b) (h n) ∙ or-false (flagged old n));
})

-- One flag is added: of id m, by a test that it is m.
adds_one : {old new : List Bool} {i m : ℕ} (test : ℕ → Bool) → new ≡ set old i true → i ≡ m → m < length old
    → ((n : ℕ) → test n ≡ eqb m n) → Adds old new test
adds_one {old} {m = m} test e p l h = subst (λ r. Adds old r test) (sym e) (adds_as test (λ n.
    tests_agree (tests_eq n m) (tests_as (tests_eq m n) sym sym) ∙ sym (h n)) (adds_set old p l))

abbrev fact_of : ℕ → Fact
fact_of w = fact product.base w

-- The word of a line inside the profile, its kind and its second id.
pub record Known (w : ℕ) (literal : Bool) (k b : ℕ) : Type 0 where
  pub is_fact_lem : T (is_fact product w)
  pub inside : T (in_profile product.top (word_line w literal))
  pub kind_is : k ≡ kind_of w
  pub second_is : b ≡ second_of w

module _ {w : ℕ} {literal : Bool} {k b : ℕ} (q : Known w literal k b) where
  second_of_lem : second (fact_of w) ≡ b
  second_of_lem = fact_second w q.is_fact_lem ∙ sym q.second_is

  kind_yes : (n : ℕ) → k ≡ n → eqb (kind (fact_of w)) n ≡ true
  kind_yes n e = eq-eqb (kind (fact_of w)) n (fact_kind_lem w q.is_fact_lem ∙ (sym q.kind_is ∙ e))

  kind_no : (n : ℕ) → (k ≡ n → ⊥) → eqb (kind (fact_of w)) n ≡ false
  kind_no n h = ne_eqb (kind (fact_of w)) n (λ e. h (q.kind_is ∙ (sym (fact_kind_lem w q.is_fact_lem) ∙ e)))

  -- Only the line of a value has a literal.
  no_literal : (k ≡ 10 → ⊥) → literal ≡ false
  no_literal h = is_false (λ t. h (q.kind_is ∙ (sym (fact_kind_lem w q.is_fact_lem)
      ∙ ((inside_parts product.top (word_line w literal) q.inside).value t).0)))

  module _ {old new : List Bool} where
    pub literal_set : literal ≡ true → {i : ℕ} → new ≡ set old i true → i ≡ b → Whole old
        → Adds old new (λ n. as_literal n (word_line w literal))
    literal_set e d r l = adds_one (λ n. as_literal n (word_line w literal)) d r (omega (arith, q.second_is))
        (λ n. ap (λ t. t && eqb (second (fact_of w)) n) e ∙ ap (λ m. eqb m n) second_of_lem)

    pub literal_kept : literal ≡ false → new ≡ old → Adds old new (λ n. as_literal n (word_line w literal))
    literal_kept e d =
        adds_no (λ n. as_literal n (word_line w literal)) d (λ n. ap (λ t. t && eqb (second (fact_of w)) n) e)

    pub literal_none : (k ≡ 10 → ⊥) → new ≡ old → Adds old new (λ n. as_literal n (word_line w literal))
    literal_none h d = literal_kept (no_literal h) d

    pub value_set : k ≡ 10 → literal ≡ false → {i : ℕ} → new ≡ set old i true → i ≡ b → Whole old
        → Adds old new (λ n. as_iri n (word_line w literal))
    value_set c e d r l = adds_one (λ n. as_iri n (word_line w literal)) d r (omega (arith, q.second_is))
        (λ n. ap (λ t. (t && not literal) && eqb (second (fact_of w)) n) (kind_yes 10 c)
        ∙ (ap (λ t. not t && eqb (second (fact_of w)) n) e ∙ ap (λ m. eqb m n) second_of_lem))

    pub value_kept : literal ≡ true → new ≡ old → Adds old new (λ n. as_iri n (word_line w literal))
    value_kept e d = adds_no (λ n. as_iri n (word_line w literal)) d (λ n. ap (λ t. t && eqb (second (fact_of w)) n)
        (ap (λ t. eqb (kind (fact_of w)) 10 && not t) e ∙ and-false (eqb (kind (fact_of w)) 10)))

    pub value_none : (k ≡ 10 → ⊥) → new ≡ old → Adds old new (λ n. as_iri n (word_line w literal))
    value_none h d = adds_no (λ n. as_iri n (word_line w literal)) d
        (λ n. ap (λ t. (t && not literal) && eqb (second (fact_of w)) n) (kind_no 10 h))

    pub member_set : k ≡ 9 → b ≡ 0 → {i a : ℕ} → a ≡ first_of w → new ≡ set old i true → i ≡ a → Whole old
        → Adds old new (λ n. is_member n (word_line w literal))
    member_set c z o d r l =
        let zero : eqb (second (fact_of w)) 0 ≡ true = eq-eqb (second (fact_of w)) 0 (second_of_lem ∙ z) in
        adds_one (λ n. is_member n (word_line w literal)) d r (omega (arith, o))
        (λ n. ap (λ t. (t && eqb (second (fact_of w)) 0) && eqb (first (fact_of w)) n) (kind_yes 9 c)
        ∙ (ap (λ t. t && eqb (first (fact_of w)) n) zero ∙ ap (λ m. eqb m n) (fact_first w q.is_fact_lem ∙ sym o)))

    pub member_kept : (b ≡ 0 → ⊥) → new ≡ old → Adds old new (λ n. is_member n (word_line w literal))
    member_kept h d =
        let some : eqb (second (fact_of w)) 0 ≡ false = ne_eqb (second (fact_of w)) 0 (λ e. h (sym second_of_lem ∙ e)) in
        adds_no (λ n. is_member n (word_line w literal)) d (λ n. ap (λ t. t && eqb (first (fact_of w)) n)
        (ap (λ t. eqb (kind (fact_of w)) 9 && t) some ∙ and-false (eqb (kind (fact_of w)) 9)))

    pub member_none : (k ≡ 9 → ⊥) → new ≡ old → Adds old new (λ n. is_member n (word_line w literal))
    member_none h d = adds_no (λ n. is_member n (word_line w literal)) d
        (λ n. ap (λ t. (t && eqb (second (fact_of w)) 0) && eqb (first (fact_of w)) n) (kind_no 9 h))
