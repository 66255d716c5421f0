-- The ways through committing: refused by the table or the ticket, out of date, and carried out. Assumes nothing.
use Prim.Native.Nat.{ℕ}
use mathlib.Core.Path.{◌≡◌, sym, ap, subst, ◌∙◌}
use mathlib.Core.Bool.{Bool, true, false, not, ◌&&◌}
use mathlib.Core.List.{List}
use lib.Dec.{T, eqb, eqb→eq}
use Rattle.std.specs.Prelude.{Err}
use Rattle.rdfs.specs.Numbers.{Numbers, product}
use Rattle.rdfs.specs.Register.{step, refused_with, Table}
use Rattle.rdfs.proofs.Lists.Tests.{and_both, both_and}
use Rattle.rdfs.proofs.Lists.Filters.{cond_yes, cond_no}
use Rattle.rdfs.proofs.Tickets.Steps.{refused_keeps}
use Rattle.table.specs.declared.refusals.Refusal.{Refusal}
use Rattle.table.specs.declared.refusals.Refusal.TheVariants.{OutOfDate}
use Rattle.table.specs.Refused.{number, answer_of}
use Rattle.ticket.specs.Answered.{Outcome, Answered, AnsweredAs}
use Rattle.ticket.proofs.CallAnswers.{refused_some, answered_refused}
use Rattle.preview.specs.Previews.{out_of_date, committing}
use Rattle.preview.specs.PreviewPromises.{CommitPromise}
use Rattle.preview.specs.Tried.{is_current}
use Rattle.preview.proofs.Trials.{trial_numbers, trial_accepted, trial_words}

-- What committing is, by the step's number and the runs.
module _ (N : Numbers) (w bytes added removed : List ℕ) where
  abbrev stale : Bool
  stale = eqb (step N w bytes).number 0 && out_of_date N w bytes added removed

  pub committed_stale : (step N w bytes).number ≡ 0 → T (out_of_date N w bytes added removed)
      → committing N w bytes added removed ≡ refused_with 18 w
  unfolding committing
  committed_stale z h = cond_yes stale (refused_with 18 w) (step N w bytes)
      (both_and (eqb (step N w bytes).number 0) (out_of_date N w bytes added removed)
      (subst (λ n. T (eqb n 0)) (sym z) tt) h)

  pub committed_refused : ((step N w bytes).number ≡ 0 → ⊥) → committing N w bytes added removed ≡ step N w bytes
  unfolding committing
  committed_refused n = cond_no stale (refused_with 18 w) (step N w bytes) (λ h. n (eqb→eq (step N w bytes).number 0
      (and_both (eqb (step N w bytes).number 0) (out_of_date N w bytes added removed) h).0))

  pub committed_current : (T (out_of_date N w bytes added removed) → ⊥) → committing N w bytes added removed ≡ step N w bytes
  unfolding committing
  committed_current n = cond_no stale (refused_with 18 w) (step N w bytes) (λ h. n
      (and_both (eqb (step N w bytes).number 0) (out_of_date N w bytes added removed) h).1)

-- A refused step, whole.
pub refused_is : (N : Numbers) (w bytes : List ℕ) → ((step N w bytes).number ≡ 0 → ⊥)
    → step N w bytes ≡ refused_with (step N w bytes).number w
refused_is N w bytes n =
    let k = refused_keeps N w bytes n in
    λ i. record { number = (step N w bytes).number; added = k.added i; removed = k.removed i; table = k.table i }

-- Refused by the table.
pub way_table : (w bytes added removed : List ℕ) (refusal : Refusal) → step product w bytes ≡ refused_with (number refusal) w
    → CommitPromise w bytes added removed (Err refusal) w
way_table w bytes added removed refusal e =
    let is : (step product w bytes).number ≡ number refusal = ap (λ x. x.number) e in
    answered_refused refusal (committed_refused product w bytes added removed (λ z. refused_some refusal (sym is ∙ z)) ∙ e)

-- Refused by the ticket.
pub way_ticket : (bytes added removed : List ℕ) {w w' v : List ℕ} (refusal : Refusal) → Table product w → w' ≡ w
    → AnsweredAs false (Err refusal) v (step product w' bytes) → CommitPromise w bytes added removed (Err refusal) w
way_ticket bytes added removed {w} refusal t copied did =
    let is : number refusal ≡ (step product w bytes).number = (trial_numbers bytes (Err refusal) t copied did).number in
    let some : (step product w bytes).number ≡ 0 → ⊥ = λ z. refused_some refusal (is ∙ z) in
    answered_refused refusal (committed_refused product w bytes added removed some ∙ (refused_is product w bytes some
    ∙ ap (λ m. refused_with m w) (sym is)))

-- The copy w', the answer a and the words v that the ticket left.
module _ (bytes added removed : List ℕ) {w w' v : List ℕ} (a : Outcome) (t : Table product w) (copied : w' ≡ w)
    (did : AnsweredAs false a v (step product w' bytes)) where
  abbrev numbers : Answered a (step product w bytes).table (step product w bytes)
  numbers = trial_numbers bytes a t copied did

  module _ (z : answer_of a ≡ 0) where
    words : v ≡ (step product w bytes).table
    words = trial_words bytes a t copied did z

    -- The runs are not what came and went.
    pub way_stale : false ≡ is_current w v added removed → CommitPromise w bytes added removed (Err OutOfDate) w
    way_stale e =
        let old : false ≡ is_current w (step product w bytes).table added removed =
        e ∙ ap (λ x. is_current w x added removed) words in
        answered_refused OutOfDate (committed_stale product w bytes added removed (trial_accepted bytes a t copied did z)
        (subst (λ b. T (not b)) old tt))

    -- They are.
    pub way_committed : {x : List ℕ} → true ≡ is_current w v added removed → x ≡ v → CommitPromise w bytes added removed a x
    way_committed {x} e q =
        let now : true ≡ is_current w (step product w bytes).table added removed =
        e ∙ ap (λ y. is_current w y added removed) words in
        subst (Answered a x)
        (sym (committed_current product w bytes added removed (λ h. subst (λ b. T (not b) → ⊥) now (λ f. f) h)))
        (subst (λ y. Answered a y (step product w bytes)) (sym (q ∙ words)) numbers)
