-- What is proved of the call `commit`, and of `ask` and `commit` one after the other: all that is known of what they answer and
-- leave are their contracts, `AskPromise` and `CommitPromise`, and of the single call its contract, `ApplyPromise`. Assumes
-- nothing.
use Prim.Native.Nat.{ℕ, ◌≤◌}
use mathlib.Core.Path.{◌≡◌, sym, ap, subst, ◌∙◌}
use mathlib.Core.Logic.{⊎_elim}
use mathlib.Core.List.{List}
use native.Mathlib.Omega.{arith}
use native.Mathlib.Decide.{ℕ_discrete}
use lib.Dec.{T, ltb, ltb→lt}
use lib.ListN.{length, take}
use Rattle.rdfs.specs.Numbers.{product}
use Rattle.rdfs.specs.Refusals.{First}
use Rattle.rdfs.specs.Register.{step, Table}
use Rattle.rdfs.proofs.Lists.Tests.{or_either}
use Rattle.rdfs.proofs.Theorems.{product_sound}
use Rattle.table.specs.Refused.{answer_of}
use Rattle.ticket.specs.Answered.{Outcome, added_by, removed_by, Answered, ApplyPromise}
use Rattle.preview.specs.Previews.{added_words, removed_words, short_run, commit_tests}
use Rattle.preview.specs.PreviewPromises.{AskPromise, CommitPromise, Same}
use Rattle.preview.proofs.StepWords.{added_is, removed_is}
use Rattle.preview.proofs.AskWays.{asked_shown}
use Rattle.preview.proofs.CommitWays.{committed_stale, committed_refused, committed_current}
use Rattle.preview_theorems.proofs.PreviewLaws.{
  accepted_table,
  commit_order,
  eighteen_by,
  stale_differs,
  differs_stale,
  commit_refused,
}
use Rattle.preview_theorems.proofs.AskTheorems.{asked_as_single, asked_added, asked_removed}

-- After asking, committing with the runs cut to the counts, on the same table, promises what the single call does.
pub committed_as_single : (w b added removed added' removed' : List ℕ) (r : Outcome)
    → AskPromise w b added removed r added' removed' → answer_of r ≡ 0 → (c : Outcome) (v : List ℕ)
    → CommitPromise w b (take (added_by r) added') (take (removed_by r) removed') c v → ApplyPromise w b c v
committed_as_single w b added removed added' removed' r p z c v q =
    let came : List ℕ = take (added_by r) added' in
    let went : List ℕ = take (removed_by r) removed' in
    subst (Answered c v) (committed_current product w b came went (λ h. stale_differs product w b came went h (
      asked_added w b added removed added' removed' r p z,
      asked_removed w b added removed added' removed' r p z,
    ))) q

-- On a ticket that the single call accepts, asking with runs long enough and then committing with the runs cut to the counts, on
-- the same table, answers and ends as the single call: x and v are what that answers and leaves, c and u what committing does.
pub asked_then_committed : (w b added removed added' removed' : List ℕ) (r : Outcome)
    → AskPromise w b added removed r added' removed'
    → (x : Outcome) (v : List ℕ) → ApplyPromise w b x v → answer_of x ≡ 0 → added_by x ≤ length added → removed_by x ≤ length removed
    → (c : Outcome) (u : List ℕ) → CommitPromise w b (take (added_by r) added') (take (removed_by r) removed') c u
    → Same r x × Same c x × (u ≡ v)
asked_then_committed w b added removed added' removed' r p x v a z la lr c u q =
    let accepted : (step product w b).number ≡ 0 = sym a.number ∙ z in
    let t : Table product w = accepted_table product w b accepted in
    let count-added : added_by x ≡ length (added_words product w b) = a.added ∙ added_is product product_sound w b t accepted in
    let count-removed : removed_by x ≡ length (removed_words product w b) =
    a.removed ∙ removed_is product product_sound w b t accepted in
    let long : T (short_run product w b added removed) → ⊥ =
    λ h. ⊎_elim (λ k. omega (arith, ltb→lt (length added) (length (added_words product w b)) k, la, count-added))
    (λ k. omega (arith, ltb→lt (length removed) (length (removed_words product w b)) k, lr, count-removed))
    (or_either (ltb (length added) (length (added_words product w b)))
    (ltb (length removed) (length (removed_words product w b))) h) in
    let zero : answer_of r ≡ 0 =
    p.number ∙ ap (λ y. y.number) (asked_shown product w b added removed accepted long) in
    let did = committed_as_single w b added removed added' removed' r p zero c u q in (
      asked_as_single w b added removed added' removed' r p x v a (λ e. omega (arith, zero, e)),
      record {
        answer = did.number ∙ sym a.number;
        added = did.added ∙ sym a.added;
        removed = did.removed ∙ sym a.removed;
      },
      did.words ∙ sym a.words,
    )

-- Committing: the words w before, the runs, the answer c and the words u after.
module _ (w b added removed u : List ℕ) (c : Outcome) (q : CommitPromise w b added removed c u) where
  -- The answer is 0 or the first refusal that holds, in the order 1 to 11 of the single call, then 18.
  pub commit_call_first : First (commit_tests w b added removed) (answer_of c)
  commit_call_first = subst (First (commit_tests w b added removed)) (sym q.number)
      (commit_order product w b added removed)

  -- A refusal moves no word, and both counts are 0.
  pub commit_call_moves_nothing : (answer_of c ≡ 0 → ⊥) → (u ≡ w) × (added_by c ≡ 0) × (removed_by c ≡ 0)
  commit_call_moves_nothing d =
      let e = commit_refused product w b added removed (λ z. d (q.number ∙ z)) in
      (q.words ∙ ap (λ y. y.table) e, q.added ∙ ap (λ y. y.added) e, q.removed ∙ ap (λ y. y.removed) e)

  -- 18 exactly if the ticket would be accepted and the runs are not the words that would come and go: those, in their order, and
  -- no other.
  pub commit_call_eighteen : (answer_of c ≡ 18 → ((step product w b).number ≡ 0)
      × ((added ≡ added_words product w b) × (removed ≡ removed_words product w b) → ⊥))
      × ((step product w b).number ≡ 0 → ((added ≡ added_words product w b) × (removed ≡ removed_words product w b) → ⊥)
      → answer_of c ≡ 18)
  commit_call_eighteen = (
    (λ e. let h = eighteen_by product w b added removed (sym q.number ∙ e) in
        (h.0, stale_differs product w b added removed h.1)),
    (λ z n. q.number ∙ ap (λ y. y.number) (committed_stale product w b added removed z
        (differs_stale product w b added removed n))),
  )

  -- Not refused with 18, it promises what the single call does.
  pub committed_or_stale : (answer_of c ≡ 18 → ⊥) → ApplyPromise w b c u
  committed_or_stale d = elim (ℕ_discrete (step product w b).number 0) [
    | yes z ↦ subst (Answered c u) (committed_current product w b added removed
        (λ h. d (q.number ∙ ap (λ y. y.number) (committed_stale product w b added removed z h)))) q
    | no n ↦ subst (Answered c u) (committed_refused product w b added removed n) q
  ]

-- Asked on the words w, committed on other words w' on which the ticket is accepted and would do something else: 18, and no word
-- moves.
pub stale_refused : (w b added removed added' removed' : List ℕ) (r : Outcome)
    → AskPromise w b added removed r added' removed' → answer_of r ≡ 0
    → (w' : List ℕ) → (step product w' b).number ≡ 0
    → ((added_words product w b ≡ added_words product w' b) × (removed_words product w b ≡ removed_words product w' b) → ⊥)
    → (c : Outcome) (u : List ℕ) → CommitPromise w' b (take (added_by r) added') (take (removed_by r) removed') c u
    → (answer_of c ≡ 18) × (u ≡ w') × (added_by c ≡ 0) × (removed_by c ≡ 0)
stale_refused w b added removed added' removed' r p z w' e d c u q =
    let old : List ℕ = take (added_by r) added' in
    let gone : List ℕ = take (removed_by r) removed' in
    let eighteen : answer_of c ≡ 18 = (commit_call_eighteen w' b old gone u c q).1 e (λ h. d (
      sym (asked_added w b added removed added' removed' r p z) ∙ h.0,
      sym (asked_removed w b added removed added' removed' r p z) ∙ h.1,
    )) in
    let kept = commit_call_moves_nothing w' b old gone u c q (λ k. omega (arith, eighteen, k)) in
    (eighteen, kept.0, kept.1, kept.2)
