-- A loop over a slice of tickets: some are run, and others are left. Assumes nothing.
use Prim.Native.Nat.{ℕ, ◌+◌, ◌≤◌, ◌<◌}
use mathlib.Core.Path.{◌≡◌, refl, sym, ap, subst, ◌∙◌}
use mathlib.Core.List.{List, [], ◌∷◌, map}
use native.Mathlib.Omega.{arith}
use native.Mathlib.Numerals.{add-one}
use lib.ListN.{length, drop, get_or, length-map}
use lib.Seq.{drop-cons}
use Rattle.rdfs.specs.Numbers.{product}
use Rattle.rdfs.specs.Register.{step, run, Table}
use Rattle.rdfs.proofs.Register.RunLaws.{run_is}
use Rattle.ticket_form.specs.TicketForm.{bytes_of}
use Rattle.ticket_form.specs.declared.fields.Ticket.{Ticket}
use Rattle.list_form.specs.Loops.{OneRun, AllRun}
use Rattle.list_form.proofs.Runs.{register_keeps}
use Rattle.list_form.proofs.Walked.{Walked, walked_start, walked_place, walked_accepted, walked_table, walked_more, walked_done}

-- The ticket at a place is the first that is left there.
pub next_first : (tickets : List Ticket) (i : ℕ) (beyond : Ticket) → i < length tickets
    → drop i tickets ≡ get_or tickets i beyond ∷ drop (i + 1) tickets
next_first tickets i beyond h =
    drop-cons tickets i beyond h ∙ ap (λ k. get_or tickets i beyond ∷ drop k tickets) (sym (add-one i))

none_left : (left : List Ticket) → length left ≡ 0 → map bytes_of left ≡ []
none_left [] h = refl
none_left (t ∷ left) h = absurd (omega (arith, h))

-- Of the tickets i are run, and these are left.
pub record RecordWalk (start room : List ℕ) (tickets left : List Ticket) (i ok : ℕ) (w out : List ℕ) : Type 0 where
  pub walked : Walked (step product) start room (map bytes_of tickets) (map bytes_of left) i ok w out

pub record_start : (start room : List ℕ) (tickets left : List Ticket) {i : ℕ} → left ≡ tickets → i ≡ 0
    → length tickets ≤ length room → RecordWalk start room tickets left i 0 start room
record_start start room tickets left all none h =
    rw (all, none) record {
      walked = walked_start (step product) start room (map bytes_of tickets) (omega (arith, h, length-map tickets bytes_of));
    }

module _ {start room : List ℕ} {tickets left : List Ticket} {i ok : ℕ} {w out : List ℕ}
    (q : RecordWalk start room tickets left i ok w out) where
  pub record_accepted : ok ≤ i
  record_accepted = walked_accepted q.walked

  pub record_table : Table product start → Table product w
  record_table = walked_table q.walked register_keeps

  pub record_done : length left ≡ 0 → AllRun ok w room out (run product start (map bytes_of tickets))
  record_done h =
      subst (AllRun ok w room out) (sym (run_is product start (map bytes_of tickets)))
      (walked_done (subst (λ l. Walked (step product) start room (map bytes_of tickets) l i ok w out) (none_left left h) q.walked))

  -- The next ticket, the first that is left.
  module _ (ticket : Ticket) (rest : List Ticket) (first : left ≡ ticket ∷ rest) {place : ℕ} (here : place ≡ i) where
    next : Walked (step product) start room (map bytes_of tickets) (bytes_of ticket ∷ map bytes_of rest) i ok w out
    next = subst (λ l. Walked (step product) start room (map bytes_of tickets) (map bytes_of l) i ok w out) first q.walked

    pub record_place : place < length out
    record_place = omega (arith, here, walked_place next (omega arith))

    pub record_more : {count r : ℕ} {v new : List ℕ} → count ≡ i + 1
        → OneRun place ok r v out new (step product w (bytes_of ticket)) → RecordWalk start room tickets rest count r v new
    record_more {count} {r} {v} {new} more o =
        let run-here : OneRun i ok r v out new (step product w (bytes_of ticket)) =
        subst (λ k. OneRun k ok r v out new (step product w (bytes_of ticket))) here o in
        subst (λ k. RecordWalk start room tickets rest k r v new) (sym more) (record { walked = walked_more next run-here })
