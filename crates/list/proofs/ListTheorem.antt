-- Demand 3, entire: from the contracts of the calls, for every consistent table and every list but one refused with 14. Assumes
-- nothing.
use Prim.Native.Nat.{ℕ, suc, ◌≤◌, ◌<◌}
use mathlib.Core.Path.{◌≡◌, sym, ap, subst, ◌∙◌}
use mathlib.Core.Bool.{false}
use mathlib.Core.List.{List, []}
use native.Mathlib.Omega.{arith}
use lib.ListN.{length, take, get_or, length-take}
use Rattle.rdfs.specs.Numbers.{product, record_length}
use Rattle.rdfs.specs.Words.{facts}
use Rattle.rdfs.specs.Register.{step, run_with, cut, register, Table}
use Rattle.rdfs.specs.Orders.{SameTickets, InOrder, AllInsertions, AllAccepted}
use Rattle.rdfs.specs.Promises.{After}
use Rattle.rdfs.proofs.Register.Perms.{same_tickets_length}
use Rattle.rdfs.proofs.Register.RunLaws.{runs_table, runs_words_at, runs_number_at}
use Rattle.rdfs.proofs.Register.AfterEach.{after}
use Rattle.rdfs.proofs.Register.Rearrangement.{rearrangement}
use Rattle.rdfs.proofs.Theorems.{product_sound, accepted_in_order}
use Rattle.list_form.specs.Listing.{ListOutcome, list_refusal, ListPromise}
use Rattle.list_form.proofs.CutOff.{cut_take}
use Rattle.list_form.proofs.Runs.{register_runs, register_keeps, as_register}
use Rattle.list.specs.CallContracts.{Calls, Contracts, Single, OneByOne, left_by}
use Rattle.list.specs.Demand3.{RanSingly, Ran, AsRegister, list_cut_off, AfterTicket, Demand3}
use Rattle.list.proofs.Taken.{room_runs, not_14_room, answered_ran}
use Rattle.list.proofs.Singles.{singly, first_calls}

abbrev tickets : List ℕ → List (List ℕ)
tickets bytes = cut record_length bytes

-- The tickets of the list cut off, and what the register does with them.
first_tickets : (i : ℕ) (bytes : List ℕ) → tickets (list_cut_off i bytes) ≡ take i (tickets bytes)
first_tickets = cut_take record_length (omega arith)

register_first : (w bytes : List ℕ) (i : ℕ) → register product w (list_cut_off i bytes) ≡ run_with (step product) w
    (take i (tickets bytes))
register_first w bytes i = register_runs w (list_cut_off i bytes) ∙ ap (run_with (step product) w) (first_tickets i bytes)

module _ (C : Calls) (contracts : Contracts C) (w : List ℕ) (t : Table product w) where
  by_singles : (l : List (List ℕ)) (ss : List Single) (u : List ℕ) → OneByOne C.apply u l ss
      → RanSingly u ss (run_with (step product) u l)
  by_singles = singly (step product) C.apply contracts.apply

  as_the_register : (bytes answers : List ℕ) → length (tickets bytes) ≤ length answers → AsRegister C w bytes answers
  as_the_register bytes answers room =
      let runs = room_runs w bytes answers t room in
      let ran : (r : ListOutcome) (v out : List ℕ) → ListPromise w bytes answers r v out
      → Ran answers r v out (register product w bytes) =
      λ r v out h. subst (Ran answers r v out) (as_register w bytes) (answered_ran false w bytes answers runs r v out h) in
      record {
        singly = λ ss h. subst (RanSingly w ss) (sym (register_runs w bytes)) (by_singles (tickets bytes) ss w h);
        each = λ r v out h. ran r v out (contracts.apply_each w bytes answers r v out h);
        listed = λ r v out h. ran r v out (contracts.apply_list w bytes answers r v out h);
        records = λ l e r v out h. ran r v out
            (subst (λ b. ListPromise w b answers r v out) e (contracts.apply_records w l answers r v out h));
      }

  module _ (bytes answers : List ℕ) (room : length (tickets bytes) ≤ length answers) where
    cut_fits : (i : ℕ) → length (tickets (list_cut_off i bytes)) ≤ length answers
    cut_fits i = omega (arith, room, ap length (first_tickets i bytes), length-take i (tickets bytes))

    single_words : (ss : List Single) → OneByOne C.apply w (tickets bytes) ss → (i : ℕ) → left_by w (take i ss)
        ≡ (register product w (list_cut_off i bytes)).table
    single_words ss h i =
        let first = first_calls C.apply i (tickets bytes) ss w h in
        (by_singles (take i (tickets bytes)) (take i ss) w first).words
        ∙ sym (ap (λ d. d.table) (register_first w bytes i))

    -- Ticket i on the words that those before left, as one step of the register.
    after_ticket : (i : ℕ) → i < length (tickets bytes)
        → AfterTicket (register product w (list_cut_off i bytes)).table (register product w (list_cut_off (suc i) bytes)).table
        (get_or (tickets bytes) i []) (get_or (register product w bytes).numbers i 0)
    after_ticket i h =
        let l = tickets bytes in
        let ticket : List ℕ = get_or l i [] in
        let u : List ℕ = (run_with (step product) w (take i l)).table in
        let a : After product u ticket =
        after product product_sound u ticket (runs_table (step product) register_keeps (take i l) w t) in
        let one : AfterTicket u (step product u ticket).table ticket (step product u ticket).number = record {
          rules = a.rules;
          refused = λ n. (a.refused n).0;
          there_are = a.there_are;
          is_gone = a.is_gone;
        } in
        rw (
          register_first w bytes i,
          register_first w bytes (suc i),
          register_runs w bytes,
          runs_words_at (step product) l w i h,
          runs_number_at (step product) l w i h,
        ) one

    ordered : AllInsertions (tickets bytes) → AllAccepted (register product w bytes).numbers
        → InOrder (facts product w) (tickets bytes)
    unfolding register
    ordered = accepted_in_order product product_sound w t (tickets bytes)

    rearranged : AllInsertions (tickets bytes) → AllAccepted (register product w bytes).numbers → (other room : List ℕ)
        → length room ≡ length answers
        → SameTickets (tickets bytes) (tickets other) → InOrder (facts product w) (tickets other)
        → AsRegister C w other room × AllAccepted (register product w other).numbers
        × ((register product w other).table ≡ (register product w bytes).table)
    unfolding register
    rearranged i a other new e same order =
        let m = rearrangement product product_sound w t (tickets bytes) (tickets other) i a same order in
        (as_the_register other new (omega (arith, e, room, same_tickets_length (tickets bytes) (tickets other) same)), m.0, m.1)

-- The theorem.
pub demand_3 : (C : Calls) → Contracts C → (w : List ℕ) → Table product w → (bytes answers : List ℕ)
    → (list_refusal w bytes answers ≡ 14 → ⊥) → Demand3 C w bytes answers
demand_3 C contracts w t bytes answers not-14 =
    let room = not_14_room w bytes answers t not-14 in
    record {
      same = as_the_register C contracts w t bytes answers room;
      cut_off = λ k. as_the_register C contracts w t (list_cut_off k bytes) answers (cut_fits C contracts w t bytes answers room k);
      first_tickets = λ k. first_tickets k bytes;
      single_words = single_words C contracts w t bytes answers room;
      after_each = after_ticket C contracts w t bytes answers room;
      ordered = ordered C contracts w t bytes answers room;
      rearranged = rearranged C contracts w t bytes answers room;
    }
