-- The operators' calls on a whole list, from their contracts: what they keep, and that the list call is single calls one after
-- another. Assumes nothing.
use Prim.Native.Nat.{ℕ}
use mathlib.Core.Path.{◌≡◌, sym, ap, subst, ◌∙◌}
use mathlib.Core.Bool.{true}
use mathlib.Core.List.{List}
use native.Mathlib.Decide.{ℕ_discrete}
use lib.ListN.{take}
use Rattle.rdfs.specs.Numbers.{product, record_length}
use Rattle.rdfs.specs.Words.{facts}
use Rattle.rdfs.specs.Register.{Done, run_with, cut, Table}
use Rattle.rdfs.specs.Operators.{operator_step, others}
use Rattle.rdfs.proofs.OperatorTheorems.{operators_keep_others}
use Rattle.rdfs.proofs.Theorems.{product_sound}
use Rattle.table.specs.Refused.{answer_of}
use Rattle.list_form.specs.Listing.{ListOutcome, list_refusal, OperatorListPromise}
use Rattle.list_form.proofs.Runs.{as_runs}
use Rattle.list.specs.CallContracts.{Single, OneByOne, left_by}
use Rattle.list.specs.Demand3.{RanSingly, Ran, list_cut_off}
use Rattle.list.specs.OperatorLists.{OperatorCalls, OperatorContracts, done_by, SameOthers, OperatorsList}
use Rattle.list.proofs.Taken.{room_runs, not_14_room, answers_refusal, refused_keeps, answered_ran}
use Rattle.list.proofs.Singles.{singly, first_calls}

abbrev tickets : List ℕ → List (List ℕ)
tickets bytes = cut record_length bytes

-- Answers, words and counts are all that single calls have done.
done_same : (w : List ℕ) (ss : List Single) (d : Done) → RanSingly w ss d → d ≡ done_by w ss
done_same w ss d r = λ i. record { numbers = sym r.numbers i; counts = sym r.counts i; table = sym r.words i }

module _ (C : OperatorCalls) (contracts : OperatorContracts C) (w : List ℕ) (t : Table product w) where
  -- Whatever the list, accepted or not.
  call_keeps : (bytes answers : List ℕ) (r : ListOutcome) (v out : List ℕ) → C.apply_list w bytes answers r v out → SameOthers v w
  call_keeps bytes answers r v out c =
      let h : OperatorListPromise w bytes answers r v out = contracts.apply_list w bytes answers r v out c in
      elim (ℕ_discrete (list_refusal w bytes answers) 0) [
        | yes e ↦ ap (λ u. others (facts product u)) ((answered_ran true w bytes answers e r v out h).words
            ∙ ap (λ d. d.table) (as_runs true w bytes)) ∙ operators_keep_others product product_sound w t (tickets bytes)
        | no n ↦ ap (λ u. others (facts product u)) (refused_keeps true w bytes answers r v out h n)
      ]

  by_singles : (l : List (List ℕ)) (ss : List Single) → OneByOne C.apply w l ss
      → RanSingly w ss (run_with (operator_step product) w l)
  by_singles l ss = singly (operator_step product) C.apply contracts.apply l ss w

  module _ (bytes answers : List ℕ) (ss : List Single) (h : OneByOne C.apply w (tickets bytes) ss) where
    singles_keep : (i : ℕ) → SameOthers (left_by w (take i ss)) w
    singles_keep i =
        let first = take i (tickets bytes) in
        ap (λ u. others (facts product u)) (by_singles first (take i ss) (first_calls C.apply i (tickets bytes) ss w h)).words
        ∙ operators_keep_others product product_sound w t first

    as_singles : (r : ListOutcome) (v out : List ℕ) → C.apply_list w bytes answers r v out → (answer_of r ≡ 14 → ⊥)
        → Ran answers r v out (done_by w ss)
    as_singles r v out c n =
        let k : OperatorListPromise w bytes answers r v out = contracts.apply_list w bytes answers r v out c in
        let not-14 : list_refusal w bytes answers ≡ 14 → ⊥ = λ e. n (answers_refusal true w bytes answers r v out k ∙ e) in
        let runs = room_runs w bytes answers t (not_14_room w bytes answers t not-14) in
        subst (Ran answers r v out) (as_runs true w bytes ∙ done_same w ss _ (by_singles (tickets bytes) ss h))
        (answered_ran true w bytes answers runs r v out k)

-- The theorem.
pub operators_list : (C : OperatorCalls) → OperatorContracts C → (w : List ℕ) → Table product w → (bytes answers : List ℕ)
    → OperatorsList C w bytes answers
operators_list C contracts w t bytes answers = record {
  singles_keep = singles_keep C contracts w t bytes answers;
  list_keeps = call_keeps C contracts w t bytes answers;
  cut_off_keeps = λ i. call_keeps C contracts w t (list_cut_off i bytes) answers;
  as_singles = as_singles C contracts w t bytes answers;
}
