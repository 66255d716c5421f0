-- The ways through asking: refused by the table or the ticket, a run too short, and asked. Assumes nothing.
use Prim.Native.Nat.{ℕ, ◌≤◌, ◌<◌}
use mathlib.Core.Path.{◌≡◌, refl, sym, ap, subst, ◌∙◌}
use mathlib.Core.Bool.{false, cond}
use mathlib.Core.Logic.{◌⊎◌, inl, inr, ⊎_elim}
use mathlib.Core.List.{List, ◌++◌}
use native.Mathlib.Omega.{arith}
use lib.Dec.{T, eqb, ltb, eqb→eq, ltb→lt, lt→ltb}
use lib.ListN.{length, drop}
use Rattle.std.specs.Prelude.{Err}
use Rattle.rdfs.specs.Numbers.{Numbers, product}
use Rattle.rdfs.specs.Register.{Answer, step, refused_with, Table}
use Rattle.rdfs.proofs.Lists.Tests.{or_either, either_or}
use Rattle.rdfs.proofs.Lists.Filters.{cond_yes, cond_no}
use Rattle.table.specs.declared.refusals.Refusal.{Refusal}
use Rattle.table.specs.declared.refusals.Refusal.TheVariants.{ShortOutput}
use Rattle.table.specs.Refused.{number, answer_of}
use Rattle.ticket.specs.Answered.{Outcome, added_by, removed_by, Answered, AnsweredAs}
use Rattle.ticket.proofs.CallAnswers.{refused_some}
use Rattle.preview.specs.Previews.{
  added_words,
  removed_words,
  short_run,
  written,
  Asked,
  not_asked,
  asking,
}
use Rattle.preview.specs.PreviewPromises.{Previewed, AskPromise}
use Rattle.differences.specs.Besides.{missing, Missing}
use Rattle.preview.proofs.Trials.{trial_numbers, trial_accepted, trial_words, tried}

-- What asking is, by the step's number and the lengths of the runs.
module _ (N : Numbers) (w bytes added removed : List ℕ) where
  abbrev s : Answer
  s = step N w bytes

  -- The two runs written.
  abbrev pub shown : Asked
  shown = record {
    number = 0;
    added = s.added;
    removed = s.removed;
    added_run = written (added_words N w bytes) added;
    removed_run = written (removed_words N w bytes) removed;
  }

  abbrev lent : Asked
  lent = cond (short_run N w bytes added removed) (not_asked 13 added removed) shown

  pub asked_refused : (s.number ≡ 0 → ⊥) → asking N w bytes added removed ≡ not_asked s.number added removed
  unfolding asking
  asked_refused n = cond_no (eqb s.number 0) lent (not_asked s.number added removed) (λ q. n (eqb→eq s.number 0 q))

  module _ (z : s.number ≡ 0) where
    asked_accepted : asking N w bytes added removed ≡ lent
    unfolding asking
    asked_accepted = cond_yes (eqb s.number 0) lent (not_asked s.number added removed)
        (subst (λ n. T (eqb n 0)) (sym z) tt)

    pub asked_short : T (short_run N w bytes added removed) → asking N w bytes added removed ≡ not_asked 13 added removed
    asked_short h = asked_accepted ∙ cond_yes (short_run N w bytes added removed) (not_asked 13 added removed) shown h

    pub asked_shown : (T (short_run N w bytes added removed) → ⊥) → asking N w bytes added removed ≡ shown
    asked_shown h = asked_accepted ∙ cond_no (short_run N w bytes added removed) (not_asked 13 added removed) shown h

-- A call that is refused answers the refusal alone.
pub previewed_refused : {added removed : List ℕ} {x : Asked} (refusal : Refusal) → x ≡ not_asked (number refusal) added removed
    → Previewed (Err refusal) added removed x
previewed_refused refusal q = rw q record {
  number = refl;
  added_count = refl;
  removed_count = refl;
  added_run = refl;
  removed_run = refl;
}

-- Refused by the table.
pub way_table : (w bytes added removed : List ℕ) (refusal : Refusal) → step product w bytes ≡ refused_with (number refusal) w
    → AskPromise w bytes added removed (Err refusal) added removed
way_table w bytes added removed refusal e =
    let is : (step product w bytes).number ≡ number refusal = ap (λ x. x.number) e in
    previewed_refused refusal (asked_refused product w bytes added removed (λ z. refused_some refusal (sym is ∙ z))
    ∙ ap (λ m. not_asked m added removed) is)

-- Refused by the ticket.
pub way_ticket : (bytes added removed : List ℕ) {w w' v : List ℕ} (refusal : Refusal) → Table product w → w' ≡ w
    → AnsweredAs false (Err refusal) v (step product w' bytes) → AskPromise w bytes added removed (Err refusal) added removed
way_ticket bytes added removed {w} refusal t copied did =
    let is : number refusal ≡ (step product w bytes).number = (trial_numbers bytes (Err refusal) t copied did).number in
    previewed_refused refusal (asked_refused product w bytes added removed (λ z. refused_some refusal (is ∙ z))
    ∙ ap (λ m. not_asked m added removed) (sym is))

-- Words stored at the front of a run.
pub written_front : {table other x : List ℕ} {n : ℕ} (run : List ℕ) → Missing table other n → x ≡ missing table other
    → x ++ drop n run ≡ written (missing table other) run
written_front {table} {other} {x} {n} run m e = λ i. e i ++ drop (m.many i) run

-- The copy w', the answer a and the words v that the ticket left.
module _ (bytes added removed : List ℕ) {w w' v : List ℕ} (a : Outcome) (t : Table product w) (copied : w' ≡ w)
    (did : AnsweredAs false a v (step product w' bytes)) where
  abbrev numbers : Answered a (step product w bytes).table (step product w bytes)
  numbers = trial_numbers bytes a t copied did

  module _ (z : answer_of a ≡ 0) where
    accepted : (step product w bytes).number ≡ 0
    accepted = trial_accepted bytes a t copied did z

    added_length : added_by a ≡ length (added_words product w bytes)
    added_length = (tried bytes a t copied did z).came.many ∙ ap (λ x. length (missing x w)) (trial_words bytes a t copied did z)

    removed_length : removed_by a ≡ length (removed_words product w bytes)
    removed_length = (tried bytes a t copied did z).went.many
        ∙ ap (λ x. length (missing w x)) (trial_words bytes a t copied did z)

    -- A run is too short.
    pub way_short : (length added < added_by a) ⊎ (length removed < removed_by a)
        → AskPromise w bytes added removed (Err ShortOutput) added removed
    way_short h = previewed_refused ShortOutput (asked_short product w bytes added removed accepted
        (either_or (ltb (length added) (length (added_words product w bytes)))
        (ltb (length removed) (length (removed_words product w bytes)))
        (⊎_elim (λ l. inl (lt→ltb (length added) (length (added_words product w bytes)) (omega (arith, l, added_length))))
        (λ l. inr (lt→ltb (length removed) (length (removed_words product w bytes)) (omega (arith, l, removed_length)))) h)))

    -- Both are long enough; the words stand at their fronts.
    pub way_asked : {added' removed' : List ℕ} → added_by a ≤ length added → removed_by a ≤ length removed
        → added' ≡ written (missing v w) added → removed' ≡ written (missing w v) removed
        → AskPromise w bytes added removed a added' removed'
    way_asked {added'} {removed'} l k p q =
        let long : T (short_run product w bytes added removed) → ⊥ =
        λ h. ⊎_elim (λ x. omega (arith, ltb→lt (length added) (length (added_words product w bytes)) x, l, added_length))
        (λ x. omega (arith, ltb→lt (length removed) (length (removed_words product w bytes)) x, k, removed_length))
        (or_either (ltb (length added) (length (added_words product w bytes)))
        (ltb (length removed) (length (removed_words product w bytes))) h) in
        let words : v ≡ (step product w bytes).table = trial_words bytes a t copied did z in
        subst (Previewed a added' removed') (sym (asked_shown product w bytes added removed accepted long)) (record {
          number = z;
          added_count = numbers.added;
          removed_count = numbers.removed;
          added_run = p ∙ ap (λ x. written (missing x w) added) words;
          removed_run = q ∙ ap (λ x. written (missing w x) removed) words;
        })
