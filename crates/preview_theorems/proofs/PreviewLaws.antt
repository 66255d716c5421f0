-- Asking and committing beside the register's step: their numbers, the order of their refusals, what a refusal leaves; the runs
-- that asking leaves. Assumes nothing.
use Prim.Native.Nat.{ℕ, ◌≤◌}
use mathlib.Core.Path.{◌≡◌, refl, sym, ap, subst, ◌∙◌}
use mathlib.Core.Bool.{Bool, true, false, ◌&&◌, ◌||◌, cond}
use mathlib.Core.Logic.{inl, inr}
use mathlib.Core.List.{List, [], ◌∷◌, ◌++◌}
use native.Mathlib.Omega.{arith}
use native.Mathlib.Decide.{ℕ_discrete}
use lib.Dec.{T, eqb, ltb, eqb→eq, nltb→le, T_not, not_T}
use lib.ListN.{length, drop, length-append, length-drop}
use lib.Seq.{drop-append_seam}
use Rattle.rdfs.specs.Numbers.{Numbers}
use Rattle.rdfs.specs.Lists.{same_list}
use Rattle.rdfs.specs.Refusals.{First, table_refusal}
use Rattle.rdfs.specs.Register.{Answer, step, refused_with, Table}
use Rattle.rdfs.proofs.Lists.Tests.{and_both, both_and, either_or, tests_self, tests_decides}
use Rattle.rdfs.proofs.Lists.SameList.{same_list_eq, same_list_refl}
use Rattle.rdfs.proofs.Tickets.FirstTrue.{first_true_lem, first_holds}
use Rattle.rdfs.proofs.Tickets.TicketRefusals.{tests}
use Rattle.rdfs.proofs.Tickets.Steps.{checked_table, table_stops, step_number}
use Rattle.rdfs.proofs.Operators.OperatorSteps.{first_put}
use Rattle.preview.specs.Previews.{
  added_words,
  removed_words,
  short_run,
  out_of_date,
  written,
  Asked,
  not_asked,
  asking,
  committing,
}
use Rattle.preview.proofs.AskWays.{shown, asked_refused, asked_short, asked_shown}
use Rattle.preview.proofs.CommitWays.{refused_is}

-- A ticket is accepted only on a consistent table.
pub accepted_table : (N : Numbers) (w bytes : List ℕ) → (step N w bytes).number ≡ 0 → Table N w
accepted_table N w bytes e = elim (ℕ_discrete (table_refusal N w 0) 0) [
  | yes z ↦ checked_table N w z
  | no n ↦ absurd (n (table_stops N w _ n ∙ (sym (step_number N w bytes) ∙ e)))
]

-- Words written over a run: as long as it was, if they fit; and written again, the same.
written_length : (l run : List ℕ) → length l ≤ length run → length (written l run) ≡ length run
written_length l run h = omega (arith, length-append l (drop (length l) run), length-drop (length l) run, h)

written_again : (l run : List ℕ) → written l (written l run) ≡ written l run
written_again l run = ap (λ m. l ++ m) (drop-append_seam l (drop (length l) run))

module _ (N : Numbers) (w bytes added removed : List ℕ) where
  abbrev s : Answer
  s = step N w bytes

  abbrev short : Bool
  short = short_run N w bytes added removed

  abbrev stale : Bool
  stale = out_of_date N w bytes added removed

  abbrev ask : Asked
  ask = asking N w bytes added removed

  -- The numbers: the step's, unless it is 0 and the call's own refusal holds.
  pub ask_number_lem : ask.number ≡ cond (eqb s.number 0 && short) 13 s.number
  unfolding asking
  ask_number_lem = by (eqb s.number 0) short (eqb→eq s.number 0)
    where
      by : (b c : Bool) → (T b → s.number ≡ 0) → (cond b (cond c (not_asked 13 added removed) (shown N w bytes added removed))
          (not_asked s.number added removed)).number ≡ cond (b && c) 13 s.number
      by true true h = refl
      by true false h = sym (h tt)
      by false true h = refl
      by false false h = refl

  pub commit_number : (committing N w bytes added removed).number ≡ cond (eqb s.number 0 && stale) 18 s.number
  unfolding committing
  commit_number = by (eqb s.number 0 && stale)
    where
      by : (b : Bool) → (cond b (refused_with 18 w) s).number ≡ cond b 18 s.number
      by true = refl
      by false = refl

  -- The first refusal that holds, in the order of the single call, then the call's own.
  in_order : (n : ℕ) (test : Bool) (number : ℕ) → number ≡ cond (eqb s.number 0 && test) n s.number
      → First (tests N w bytes ++ ((n, test) ∷ [])) number
  in_order n test number e = subst (First (tests N w bytes ++ ((n, test) ∷ [])))
      (first_put n test [] (tests N w bytes) tt
      ∙ (ap (λ m. cond (eqb m 0 && test) n m) (sym (step_number N w bytes)) ∙ sym e))
      (first_true_lem (tests N w bytes ++ ((n, test) ∷ [])))

  pub ask_order : First (tests N w bytes ++ ((13, short) ∷ [])) ask.number
  ask_order = in_order 13 short ask.number ask_number_lem

  pub commit_order : First (tests N w bytes ++ ((18, stale) ∷ [])) (committing N w bytes added removed).number
  commit_order = in_order 18 stale (committing N w bytes added removed).number commit_number

  -- The step gives neither 13 nor 18.
  not_the_steps : (n : ℕ) → (n ≡ 0 → ⊥) → (s.number ≡ n → ⊥) → (test : Bool) → cond (eqb s.number 0 && test) n s.number
      ≡ n → (s.number ≡ 0) × T test
  not_the_steps n d other test e = by (eqb s.number 0 && test) refl e
    where
      by : (b : Bool) → (eqb s.number 0 && test) ≡ b → cond b n s.number ≡ n → (s.number ≡ 0) × T test
      by true q e =
          let both = and_both (eqb s.number 0) test (subst T (sym q) tt) in
          (eqb→eq s.number 0 both.0, both.1)
      by false q e = absurd (other e)

  pub thirteen_by : ask.number ≡ 13 → (s.number ≡ 0) × T short
  thirteen_by e = not_the_steps 13 (λ z. omega (arith, z)) (λ q. first_holds (tests N w bytes) tt 13 (λ z. omega (arith, z))
      (sym (step_number N w bytes) ∙ q)) short (sym ask_number_lem ∙ e)

  pub eighteen_by : (committing N w bytes added removed).number ≡ 18 → (s.number ≡ 0) × T stale
  eighteen_by e = not_the_steps 18 (λ z. omega (arith, z)) (λ q. first_holds (tests N w bytes) tt 18 (λ z. omega (arith, z))
      (sym (step_number N w bytes) ∙ q)) stale (sym commit_number ∙ e)

  -- Exactly the words: 18 is not given for them, and for no other runs is it left out.
  pub stale_differs : T stale → (added ≡ added_words N w bytes) × (removed ≡ removed_words N w bytes) → ⊥
  stale_differs h p = T_not (same_list added (added_words N w bytes) && same_list removed (removed_words N w bytes)) h
      (both_and (same_list added (added_words N w bytes)) (same_list removed (removed_words N w bytes))
      (subst (λ l. T (same_list added l)) p.0 (same_list_refl added))
      (subst (λ l. T (same_list removed l)) p.1 (same_list_refl removed)))

  pub differs_stale : ((added ≡ added_words N w bytes) × (removed ≡ removed_words N w bytes) → ⊥) → T stale
  differs_stale n = not_T (same_list added (added_words N w bytes) && same_list removed (removed_words N w bytes)) (λ h.
      let both = and_both (same_list added (added_words N w bytes)) (same_list removed (removed_words N w bytes)) h in
      n (same_list_eq added (added_words N w bytes) both.0, same_list_eq removed (removed_words N w bytes) both.1))

  -- Asked and not refused: the ticket is accepted, no run is too short.
  pub record Shown : Type 0 where
    pub accepted : s.number ≡ 0
    pub long : T short → ⊥
    pub all : ask ≡ shown N w bytes added removed

  pub asked_is : ask.number ≡ 0 → Shown
  asked_is e = elim (ℕ_discrete s.number 0) [
    | yes z ↦ elim (tests_decides (tests_self short)) [
      | yes h ↦ absurd (omega (arith, sym (ap (λ a. a.number) (asked_short N w bytes added removed z h)) ∙ e))
      | no h ↦ record { accepted = z; long = h; all = asked_shown N w bytes added removed z h }
    ]
    | no n ↦ absurd (n (sym (ap (λ a. a.number) (asked_refused N w bytes added removed n)) ∙ e))
  ]

  -- Refused: the counts are 0 and the runs as they were.
  pub ask_refused : (ask.number ≡ 0 → ⊥) → ask ≡ not_asked ask.number added removed
  ask_refused d = elim (ℕ_discrete s.number 0) [
    | yes z ↦ elim (tests_decides (tests_self short)) [
      | yes h ↦ alone (asked_short N w bytes added removed z h)
      | no h ↦ absurd (d (ap (λ a. a.number) (asked_shown N w bytes added removed z h)))
    ]
    | no n ↦ alone (asked_refused N w bytes added removed n)
  ]
    where
      alone : {n : ℕ} → ask ≡ not_asked n added removed → ask ≡ not_asked ask.number added removed
      alone e = e ∙ ap (λ m. not_asked m added removed) (sym (ap (λ a. a.number) e))

  pub commit_refused : ((committing N w bytes added removed).number ≡ 0 → ⊥)
      → committing N w bytes added removed ≡ refused_with (committing N w bytes added removed).number w
  unfolding committing
  commit_refused = by (eqb s.number 0 && stale)
    where
      by : (b : Bool) → ((cond b (refused_with 18 w) s).number ≡ 0 → ⊥)
          → cond b (refused_with 18 w) s ≡ refused_with (cond b (refused_with 18 w) s).number w
      by true d = refl
      by false d = refused_is N w bytes d

-- Runs that are long enough are so after asking, too.
module _ (N : Numbers) (w bytes added removed : List ℕ) (long : T (short_run N w bytes added removed) → ⊥) where
  abbrev coming : List ℕ
  coming = added_words N w bytes

  abbrev going : List ℕ
  going = removed_words N w bytes

  added_fits : length coming ≤ length added
  added_fits = nltb→le (length added) (length coming) (not_T (ltb (length added) (length coming))
      (λ h. long (either_or (ltb (length added) (length coming)) (ltb (length removed) (length going)) (inl h))))

  removed_fits : length going ≤ length removed
  removed_fits = nltb→le (length removed) (length going) (not_T (ltb (length removed) (length going))
      (λ h. long (either_or (ltb (length added) (length coming)) (ltb (length removed) (length going)) (inr h))))

  long_again : T (short_run N w bytes (written coming added) (written going removed)) → ⊥
  long_again h = long (subst T (λ i. ltb (written_length coming added added_fits i) (length coming)
      || ltb (written_length going removed removed_fits i) (length going)) h)

  pub shown_again : (step N w bytes).number ≡ 0
      → asking N w bytes (written coming added) (written going removed) ≡ shown N w bytes added removed
  shown_again z = asked_shown N w bytes (written coming added) (written going removed) z long_again
      ∙ (λ i. record {
        number = 0;
        added = (step N w bytes).added;
        removed = (step N w bytes).removed;
        added_run = written_again coming added i;
        removed_run = written_again going removed i;
      })
