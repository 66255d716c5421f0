-- The theorems on the operators' ticket call itself: r is what `apply_operator` answers and v the words it leaves, and all that
-- is known of them is its contract, `OperatorPromise`. Assumes nothing.
use Prim.Native.Nat.{ℕ}
use mathlib.Core.Path.{◌≡◌, sym, ap, subst, ◌∙◌}
use mathlib.Core.List.{List, [], ◌∷◌}
use Rattle.rdfs.specs.Numbers.{product, operator_kinds}
use Rattle.rdfs.specs.Lists.{◌∈◌}
use Rattle.rdfs.specs.Words.{facts}
use Rattle.rdfs.specs.Tickets.{decoded}
use Rattle.rdfs.specs.Refusals.{first_or, first_true, First}
use Rattle.rdfs.specs.Register.{run_with, Table}
use Rattle.rdfs.specs.Operators.{earlier_tests, operator_tests, others}
use Rattle.rdfs.proofs.OperatorTheorems.{
  operators_as_plain,
  others_are_refused,
  operator_order,
  seventeen_is_exact,
  operator_refusal_changes_nothing,
  operators_keep_others,
}
use Rattle.rdfs.proofs.Theorems.{product_sound}
use Rattle.table.specs.Refused.{answer_of}
use Rattle.ticket.specs.Answered.{Outcome, added_by, removed_by, Answered, ApplyPromise}
use Rattle.operators.specs.Operator.{OperatorPromise}

-- With an operator's kind the call promises what the plain call promises, no more and no less.
pub operator_call_as_plain : (w b v : List ℕ) (r : Outcome) → (decoded b).kind ∈ operator_kinds
    → (OperatorPromise w b r v → ApplyPromise w b r v) × (ApplyPromise w b r v → OperatorPromise w b r v)
operator_call_as_plain w b v r k =
    let same = operators_as_plain product w b k in
    (subst (Answered r v) same, subst (Answered r v) (sym same))

module _ (w b v : List ℕ) (r : Outcome) (a : OperatorPromise w b r v) where
  -- The answer is 0 or the first refusal that holds, in the order 1 to 7, 17, 8, 9, 16, 10, 11.
  pub operator_call_first : First (operator_tests product w b) (answer_of r)
  operator_call_first = subst (First (operator_tests product w b)) (sym a.number) (operator_order product w b)

  -- A refusal moves no word, and both counts are 0.
  pub operator_call_moves_nothing : (answer_of r ≡ 0 → ⊥) → (v ≡ w) × (added_by r ≡ 0) × (removed_by r ≡ 0)
  operator_call_moves_nothing n =
      let k = operator_refusal_changes_nothing product w b (λ e. n (a.number ∙ e)) in
      (a.words ∙ k.0, a.added ∙ k.1, a.removed ∙ k.2)

  -- With another kind: the first of 1 to 7 that holds, or 17.
  pub operator_call_others : ((decoded b).kind ∈ operator_kinds → ⊥) → answer_of r ≡ first_or (earlier_tests product w b) 17
  operator_call_others n = a.number ∙ others_are_refused product w b n

  -- 17 exactly if none of 1 to 7 holds and the kind is no operator's.
  pub operator_call_seventeen : (answer_of r ≡ 17
      → (first_true (earlier_tests product w b) ≡ 0) × ((decoded b).kind ∈ operator_kinds → ⊥))
      × (first_true (earlier_tests product w b) ≡ 0 → ((decoded b).kind ∈ operator_kinds → ⊥) → answer_of r ≡ 17)
  operator_call_seventeen =
      let exact = seventeen_is_exact product w b in
      ((λ e. exact.0 (sym a.number ∙ e)), (λ z n. a.number ∙ exact.1 z n))

  -- On a consistent table, whatever the ticket and its answer, the facts of the other kinds are those that were there.
  pub operator_call_keeps_others : Table product w → others (facts product v) ≡ others (facts product w)
  unfolding run_with
  operator_call_keeps_others t = ap (λ u. others (facts product u)) a.words
      ∙ operators_keep_others product product_sound w t (b ∷ [])
