-- The theorems on operators' tickets: with their kinds they are plain tickets; any other is refused; the refusals in their order,
-- 17 among them; and a list of them leaves every fact of the other kinds as it was. docs/THEOREMS.md says what each rules out.
-- Assumes nothing.
use Prim.Native.Nat.{ℕ}
use mathlib.Core.Path.{◌≡◌, sym, ap, subst}
use mathlib.Core.List.{List}
use lib.Dec.{T, eqb, eqb→eq, T_not, not_T}
use Rattle.rdfs.specs.Numbers.{Numbers, Sound, operator_kinds}
use Rattle.rdfs.specs.Lists.{◌∈◌, member}
use Rattle.rdfs.specs.Words.{facts}
use Rattle.rdfs.specs.Tickets.{decoded}
use Rattle.rdfs.specs.Refusals.{first_or, first_true, First}
use Rattle.rdfs.specs.Register.{step, run_with, Table}
use Rattle.rdfs.specs.Operators.{not_for_operators, earlier_tests, operator_step, operator_tests, others}
use Rattle.rdfs.proofs.Lists.Tests.{and_both, both_and}
use Rattle.rdfs.proofs.Words.FactLaws.{in_member, member_in_lem}
use Rattle.rdfs.proofs.Operators.OperatorSteps.{
  operator_barred,
  theirs_plain,
  operator_first,
  not_theirs_refused,
  seventeen_barred,
  operator_refused,
}
use Rattle.rdfs.proofs.Operators.KeepsOthers as keeping

module _ (N : Numbers) (table bytes : List ℕ) where
  -- A ticket of an operator's kind, on any words whatever, is the plain ticket: number, counts and words.
  pub operators_as_plain : (decoded bytes).kind ∈ operator_kinds → operator_step N table bytes ≡ step N table bytes
  operators_as_plain = theirs_plain N table bytes

  other : ((decoded bytes).kind ∈ operator_kinds → ⊥) → T (not_for_operators (decoded bytes))
  other n = not_T (member operator_kinds (decoded bytes).kind) (λ m. n (member_in_lem operator_kinds (decoded bytes).kind m))

  -- Any other is refused, with the first of 1 to 7 that holds, or with 17.
  pub others_are_refused : ((decoded bytes).kind ∈ operator_kinds → ⊥) → (operator_step N table bytes).number
      ≡ first_or (earlier_tests N table bytes) 17
  others_are_refused n = not_theirs_refused N table bytes (other n)

  -- The answer is the first refusal that holds in the order 1 to 7, 17, 8, 9, 16, 10, 11; 0 if none does.
  pub operator_order : First (operator_tests N table bytes) (operator_step N table bytes).number
  operator_order = operator_first N table bytes

  -- 17 comes exactly if none of 1 to 7 holds and the kind is no operator's.
  pub seventeen_is_exact : ((operator_step N table bytes).number ≡ 17
      → (first_true (earlier_tests N table bytes) ≡ 0) × ((decoded bytes).kind ∈ operator_kinds → ⊥))
      × (first_true (earlier_tests N table bytes) ≡ 0 → ((decoded bytes).kind ∈ operator_kinds → ⊥)
      → (operator_step N table bytes).number ≡ 17)
  seventeen_is_exact = (
    (λ e. let b = and_both (eqb (first_true (earlier_tests N table bytes)) 0) (not_for_operators (decoded bytes))
        (seventeen_barred N table bytes e) in (
          eqb→eq (first_true (earlier_tests N table bytes)) 0 b.0,
          λ k. T_not (member operator_kinds (decoded bytes).kind) b.1 (in_member operator_kinds (decoded bytes).kind k),
        )),
    (λ z n. ap (λ a. a.number) (operator_barred N table bytes (both_and (eqb (first_true (earlier_tests N table bytes)) 0)
        (not_for_operators (decoded bytes)) (subst (λ m. T (eqb m 0)) (sym z) tt) (other n)))),
  )

  -- A refusal changes no word, and both counts are 0.
  pub operator_refusal_changes_nothing : ((operator_step N table bytes).number ≡ 0 → ⊥)
      → ((operator_step N table bytes).table ≡ table) × ((operator_step N table bytes).added ≡ 0)
      × ((operator_step N table bytes).removed ≡ 0)
  operator_refusal_changes_nothing = operator_refused N table bytes

-- From a consistent table, after every list of operators' tickets, whatever their bytes, accepted or not, the facts of the other
-- kinds are those that were there, Excl's too: none is gone, none is new.
pub operators_keep_others : (N : Numbers) → Sound N → (table : List ℕ) → Table N table → (l : List (List ℕ))
    → others (facts N (run_with (operator_step N) table l).table) ≡ others (facts N table)
operators_keep_others N s table t l = keeping.operators_keep_others N s l table t
