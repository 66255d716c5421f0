-- What is proved of the call `ask`: all that is known of what it answers and of the runs that it leaves is its contract,
-- `AskPromise`, and of the single call its contract, `ApplyPromise`. Assumes nothing.
use Prim.Native.Nat.{ℕ}
use mathlib.Core.Path.{◌≡◌, sym, ap, subst, ◌∙◌}
use mathlib.Core.Bool.{not}
use mathlib.Core.List.{List}
use native.Mathlib.Decide.{ℕ_discrete}
use lib.Dec.{T, T_not, not_T}
use lib.ListN.{length, take}
use lib.Seq.{take-append_seam}
use Rattle.rdfs.specs.Numbers.{product}
use Rattle.rdfs.specs.Lists.{member, Ascending}
use Rattle.rdfs.specs.Words.{filled}
use Rattle.rdfs.specs.Tickets.{decoded, inserts, deletes}
use Rattle.rdfs.specs.Refusals.{First}
use Rattle.rdfs.specs.Register.{newcomers, step, Table}
use Rattle.rdfs.proofs.Lists.Tests.{tests_self, tests_decides}
use Rattle.rdfs.proofs.Lists.ListLaws.{in_filter, filter_in}
use Rattle.rdfs.proofs.Lists.Filters.{filter_ascending}
use Rattle.rdfs.proofs.Words.FactLaws.{member_in_lem, in_member}
use Rattle.rdfs.proofs.Words.LaidOut.{laid_ascending}
use Rattle.rdfs.proofs.Tickets.Steps.{refused_keeps}
use Rattle.rdfs.proofs.Register.AfterEach.{after}
use Rattle.rdfs.proofs.Theorems.{product_sound}
use Rattle.table.specs.Refused.{answer_of}
use Rattle.ticket.specs.Answered.{Outcome, added_by, removed_by, ApplyPromise}
use Rattle.preview.specs.Previews.{
  added_words,
  removed_words,
  short_run,
  asking,
  ask_tests,
}
use Rattle.preview.specs.PreviewPromises.{AskPromise, Same, Difference}
use Rattle.preview.proofs.StepWords.{added_is, removed_is}
use Rattle.preview.proofs.AskWays.{asked_refused, asked_short, asked_shown}
use Rattle.preview_theorems.proofs.PreviewLaws.{
  accepted_table,
  ask_order,
  thirteen_by,
  Shown,
  asked_is,
  ask_refused,
  shown_again,
}

newcomers_differ : (has lacks : List ℕ) → Ascending (filled has) → Difference (newcomers (filled lacks) (filled has)) has lacks
newcomers_differ has lacks a = record {
  ascending = filter_ascending (λ n. not (member (filled lacks) n)) (filled has) a;
  only = λ n h. let r = in_filter (λ n. not (member (filled lacks) n)) (filled has) h in
      (r.0, λ k. T_not (member (filled lacks) n) r.1 (in_member (filled lacks) n k));
  all = λ n h d. filter_in (λ n. not (member (filled lacks) n)) (filled has) h
      (not_T (member (filled lacks) n) (λ t. d (member_in_lem (filled lacks) n t)));
}

-- Asking: a table w, a ticket b, the runs before and after, and the answer r.
module _ (w b added removed added' removed' : List ℕ) (r : Outcome) (p : AskPromise w b added removed r added' removed') where
  -- The answer is 0 or the first refusal that holds, in the order 1 to 11 of the single call, then 13.
  pub ask_call_first : First (ask_tests w b added removed) (answer_of r)
  ask_call_first = subst (First (ask_tests w b added removed)) (sym p.number) (ask_order product w b added removed)

  -- 13 exactly if the ticket would be accepted and a run is shorter than the words to go to it.
  pub ask_call_thirteen : (answer_of r ≡ 13 → ((step product w b).number ≡ 0) × T (short_run product w b added removed))
      × ((step product w b).number ≡ 0 → T (short_run product w b added removed) → answer_of r ≡ 13)
  ask_call_thirteen = (
    (λ e. thirteen_by product w b added removed (sym p.number ∙ e)),
    (λ z h. p.number ∙ ap (λ a. a.number) (asked_short product w b added removed z h)),
  )

  -- Refused, the runs are as they were, and both counts are 0.
  pub ask_call_writes_nothing : (answer_of r ≡ 0 → ⊥) → (added' ≡ added) × (removed' ≡ removed) × (added_by r ≡ 0)
      × (removed_by r ≡ 0)
  ask_call_writes_nothing d =
      let e = ask_refused product w b added removed (λ z. d (p.number ∙ z)) in (
        p.added_run ∙ ap (λ a. a.added_run) e,
        p.removed_run ∙ ap (λ a. a.removed_run) e,
        p.added_count ∙ ap (λ a. a.added) e,
        p.removed_count ∙ ap (λ a. a.removed) e,
      )

  -- Unless it is refused with 13, it answers as the single call x does.
  pub asked_as_single : (x : Outcome) (v : List ℕ) → ApplyPromise w b x v → (answer_of r ≡ 13 → ⊥) → Same r x
  asked_as_single x v a d = elim (ℕ_discrete (answer_of r) 0) [
    | yes z ↦ let s = asked_is product w b added removed (sym p.number ∙ z) in
        record {
          answer = z ∙ sym (a.number ∙ s.accepted);
          added = p.added_count ∙ (ap (λ y. y.added) s.all ∙ sym a.added);
          removed = p.removed_count ∙ (ap (λ y. y.removed) s.all ∙ sym a.removed);
        }
    | no n ↦ refused_alike x v a d n
  ]
    where
      refused_alike : (x : Outcome) (v : List ℕ) → ApplyPromise w b x v → (answer_of r ≡ 13 → ⊥) → (answer_of r ≡ 0 → ⊥) → Same r x
      refused_alike x v a d n = elim (ℕ_discrete (step product w b).number 0) [
        | yes z ↦ absurd (both z)
        | no q ↦ let e = asked_refused product w b added removed q in
            let k = refused_keeps product w b q in
            record {
              answer = p.number ∙ (ap (λ y. y.number) e ∙ sym a.number);
              added = p.added_count ∙ (ap (λ y. y.added) e ∙ sym (a.added ∙ k.added));
              removed = p.removed_count ∙ (ap (λ y. y.removed) e ∙ sym (a.removed ∙ k.removed));
            }
      ]
        where
          both : (step product w b).number ≡ 0 → ⊥
          both z = elim (tests_decides (tests_self (short_run product w b added removed))) [
            | yes h ↦ d (p.number ∙ ap (λ y. y.number) (asked_short product w b added removed z h))
            | no h ↦ n (p.number ∙ ap (λ y. y.number) (asked_shown product w b added removed z h))
          ]

  -- Asked and not refused.
  module _ (z : answer_of r ≡ 0) where
    was : Shown product w b added removed
    was = asked_is product w b added removed (sym p.number ∙ z)

    table : Table product w
    table = accepted_table product w b was.accepted

    added_count_lem : added_by r ≡ length (added_words product w b)
    added_count_lem = p.added_count ∙ (ap (λ y. y.added) was.all ∙ added_is product product_sound w b table was.accepted)

    removed_count_lem : removed_by r ≡ length (removed_words product w b)
    removed_count_lem = p.removed_count ∙ (ap (λ y. y.removed) was.all
        ∙ removed_is product product_sound w b table was.accepted)

    -- The runs, cut to the counts, are the words that would come and go.
    pub asked_added : take (added_by r) added' ≡ added_words product w b
    asked_added = (λ i. take (added_count_lem i) ((p.added_run ∙ ap (λ y. y.added_run) was.all) i))
        ∙ take-append_seam (added_words product w b) _

    pub asked_removed : take (removed_by r) removed' ≡ removed_words product w b
    asked_removed = (λ i. take (removed_count_lem i) ((p.removed_run ∙ ap (λ y. y.removed_run) was.all) i))
        ∙ take-append_seam (removed_words product w b) _

    -- They are exactly the difference between the table and the one that the single call leaves, v.
    pub asked_is_difference : (x : Outcome) (v : List ℕ) → ApplyPromise w b x v
        → Difference (take (added_by r) added') v w × Difference (take (removed_by r) removed') w v
    asked_is_difference x v a =
        let laid : Ascending (filled v) = laid_ascending product v
        (subst (Table product) (sym a.words) (after product product_sound w b table).rules).laid in (
          subst (λ l. Difference l v w) (sym (asked_added ∙ ap (λ u. newcomers (filled w) (filled u)) (sym a.words)))
              (newcomers_differ v w laid),
          subst (λ l. Difference l w v) (sym (asked_removed ∙ ap (λ u. newcomers (filled u) (filled w)) (sym a.words)))
              (newcomers_differ w v (laid_ascending product w table.laid)),
        )

  -- Asking again with the runs that it left says the same and leaves the same.
  pub asked_twice : (q : Outcome) (added'' removed'' : List ℕ) → AskPromise w b added' removed' q added'' removed''
      → Same q r × (added'' ≡ added') × (removed'' ≡ removed')
  asked_twice q added'' removed'' again =
      let same : asking product w b added' removed' ≡ asking product w b added removed = once in (
        record {
          answer = again.number ∙ (ap (λ y. y.number) same ∙ sym p.number);
          added = again.added_count ∙ (ap (λ y. y.added) same ∙ sym p.added_count);
          removed = again.removed_count ∙ (ap (λ y. y.removed) same ∙ sym p.removed_count);
        },
        again.added_run ∙ (ap (λ y. y.added_run) same ∙ sym p.added_run),
        again.removed_run ∙ (ap (λ y. y.removed_run) same ∙ sym p.removed_run),
      )
    where
      once : asking product w b added' removed' ≡ asking product w b added removed
      once = elim (ℕ_discrete (asking product w b added removed).number 0) [
        | yes z ↦ let s = asked_is product w b added removed z in
            (λ i. asking product w b ((p.added_run ∙ ap (λ y. y.added_run) s.all) i)
            ((p.removed_run ∙ ap (λ y. y.removed_run) s.all) i))
            ∙ (shown_again product w b added removed s.long s.accepted ∙ sym s.all)
        | no n ↦ let e = ask_refused product w b added removed n in
            λ i. asking product w b ((p.added_run ∙ ap (λ y. y.added_run) e) i) ((p.removed_run ∙ ap (λ y. y.removed_run) e) i)
      ]

-- An insertion removes nothing and a deletion adds nothing: a run of no words is enough for it.
pub insertion_shows_no_removed : (w b : List ℕ) → Table product w → T (inserts (decoded b)) → (step product w b).number ≡ 0
    → length (removed_words product w b) ≡ 0
insertion_shows_no_removed w b t i e = sym (removed_is product product_sound w b t e)
    ∙ ((after product product_sound w b t).grows i).0

pub deletion_shows_no_added : (w b : List ℕ) → Table product w → T (deletes (decoded b)) → (step product w b).number ≡ 0
    → length (added_words product w b) ≡ 0
deletion_shows_no_added w b t d e = sym (added_is product product_sound w b t e)
    ∙ ((after product product_sound w b t).shrinks d).0
