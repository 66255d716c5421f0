-- A list call from its parts: the refusal, the loop, the counts. Assumes nothing.
use Prim.Native.Nat.{ℕ, zero, suc, ◌-◌, ◌≤◌}
use mathlib.Core.Path.{◌≡◌, refl, sym, ap, subst, ◌∙◌}
use mathlib.Core.Bool.{Bool, true, false}
use mathlib.Core.List.{List}
use native.Mathlib.Omega.{arith}
use native.Mathlib.Decide.{ℕ_discrete}
use lib.Dec.{ltb}
use lib.ListN.{length}
use borrow.Author.Tests.{ltb-false}
use Rattle.rdfs.specs.Numbers.{product, record_length}
use Rattle.rdfs.specs.Refusals.{or_else, table_refusal}
use Rattle.rdfs.specs.Register.{Done, cut, Table}
use Rattle.rdfs.specs.Operators.{step_as, register_as}
use Rattle.rdfs.proofs.Register.Cut.{cut_length}
use Rattle.rdfs.proofs.Register.RunLaws.{runs_numbers}
use Rattle.rdfs.proofs.Tickets.Steps.{checked_table, table_passes, table_stops}
use Rattle.std.specs.Prelude.{Ok, Err}
use Rattle.table.specs.declared.refusals.Refusal.{Refusal}
use Rattle.table.specs.Refused.{number}
use Rattle.ticket_form.proofs.Numbered.{number_some}
use Rattle.list_form.specs.declared.answers.Listed.{Listed}
use Rattle.list_form.specs.Listing.{accepted_of, refused_of, refusal_of, listing_by, listing_as, ListAnswered}
use Rattle.list_form.specs.Loops.{tickets_in, AllRun, listed_of}
use Rattle.list_form.proofs.Runs.{as_runs, all_counted}

-- What is known of a list that is not refused.
module _ (w : List ℕ) (n room : ℕ) (e : refusal_of w n room ≡ 0) where
  taken_table : Table product w
  taken_table = elim (ℕ_discrete (table_refusal product w 0) 0) [
    | yes h ↦ checked_table product w h
    | no h ↦ checked_table product w (table_stops product w (or_else (ltb room n) 14 0) h ∙ e)
  ]

  taken_room : n ≤ room
  taken_room = go (ltb room n) refl
    where
      go : (b : Bool) → ltb room n ≡ b → n ≤ room
      go true q = absurd (omega (
        arith,
        sym (table_passes product w taken_table 14)
            ∙ (ap (λ b. table_refusal product w (or_else b 14 0)) (sym q) ∙ e),
      ))
      go false q = omega (arith, ltb-false room n q)

-- A list of m tickets on the words w: n are counted, and a is the refusal.
pub record Judged (w : List ℕ) (m : ℕ) (answers : List ℕ) (n a : ℕ) : Type 0 where
  pub tickets : n ≡ m
  pub refusal : a ≡ refusal_of w n (length answers)

pub bytes_judged : (bytes answers : List ℕ) {w : List ℕ} {n a : ℕ} → n ≡ tickets_in (length bytes)
    → a ≡ refusal_of w n (length answers) → Judged w (length (cut record_length bytes)) answers n a
bytes_judged bytes answers e h =
    record { tickets = e ∙ sym (cut_length record_length (omega arith) bytes); refusal = h }

module _ {w answers : List ℕ} {m n : ℕ} where
  pub list_table : Judged w m answers n 0 → Table product w
  list_table j = taken_table w n (length answers) (sym j.refusal)

  pub list_room : Judged w m answers n 0 → m ≤ length answers
  list_room j = subst (λ k. k ≤ length answers) j.tickets (taken_room w n (length answers) (sym j.refusal))

  -- If it is run, `does` is done on the words, a number for each ticket.
  module _ (done : Done) where
    by_refusal : {a : ℕ} → Judged w m answers n a
        → listing_by (refusal_of w m (length answers)) w answers done ≡ listing_by a w answers done
    by_refusal j = ap (λ k. listing_by k w answers done)
        (sym (j.refusal ∙ ap (λ k. refusal_of w k (length answers)) j.tickets))

    pub call_refused : (refusal : Refusal) → Judged w m answers n (number refusal)
        → ListAnswered (Err refusal) w answers (listing_by (refusal_of w m (length answers)) w answers done)
    call_refused refusal j = rw (by_refusal j) (go (number refusal) refl)
      where
        go : (k : ℕ) → number refusal ≡ k → ListAnswered (Err refusal) w answers (listing_by k w answers done)
        go zero q = absurd (number_some refusal q)
        go (suc k) q = record { answer = q; accepted = refl; refused = refl; words = refl; numbers = refl }

    module _ (j : Judged w m answers n 0) (numbered : length done.numbers ≡ m) {ok : ℕ} {u out : List ℕ}
        (ran : AllRun ok u answers out done) where
      pub call_within : ok ≤ n
      call_within = omega (arith, ran.accepted, all_counted done.numbers, numbered, j.tickets)

      pub call_run : {r : Listed} → r ≡ listed_of n ok
          → ListAnswered (Ok r) u out (listing_by (refusal_of w m (length answers)) w answers done)
      call_run {r} e =
          let rest : n - ok ≡ refused_of done.numbers =
          omega (arith, ran.accepted, all_counted done.numbers, numbered, j.tickets) in
          rw (by_refusal j, e) record {
            answer = refl;
            accepted = ran.accepted;
            refused = rest;
            words = ran.words;
            numbers = ran.numbers;
          }

-- A list that the register is to run, with operators' tickets or with anyone's.
module _ (operator : Bool) (bytes : List ℕ) where
  numbered : (w : List ℕ) → length (register_as operator product w bytes).numbers ≡ length (cut record_length bytes)
  numbered w = ap (λ d. length d.numbers) (as_runs operator w bytes) ∙ runs_numbers (step_as operator product)
      (cut record_length bytes) w

  module _ {w answers : List ℕ} {n : ℕ} where
    pub list_refused : (refusal : Refusal) → Judged w (length (cut record_length bytes)) answers n (number refusal)
        → ListAnswered (Err refusal) w answers (listing_as operator w bytes answers)
    unfolding listing_as
    list_refused = call_refused (register_as operator product w bytes)

    module _ (j : Judged w (length (cut record_length bytes)) answers n 0) {ok : ℕ} {u out : List ℕ}
        (ran : AllRun ok u answers out (register_as operator product w bytes)) where
      pub list_within : ok ≤ n
      list_within = call_within (register_as operator product w bytes) j (numbered w) ran

      pub list_run : {r : Listed} → r ≡ listed_of n ok
          → ListAnswered (Ok r) u out (listing_as operator w bytes answers)
      unfolding listing_as
      list_run = call_run (register_as operator product w bytes) j (numbered w) ran
