-- A loop over the bytes of a list: the first ticket of those that are left is run. Assumes nothing.
use Prim.Native.Nat.{ℕ, ◌+◌, ◌≤◌, ◌<◌, min}
use mathlib.Core.Path.{◌≡◌, sym, ap, subst, ◌∙◌}
use mathlib.Core.Bool.{Bool}
use mathlib.Core.List.{List, ◌∷◌, ◌++◌}
use native.Mathlib.Omega.{arith}
use lib.ListN.{length, set}
use Rattle.rdfs.specs.Numbers.{product, record_length}
use Rattle.rdfs.specs.Register.{Answer, run_with, cut, Table}
use Rattle.rdfs.specs.Operators.{step_as, register_as}
use Rattle.rdfs.proofs.Register.RunLaws.{Keeps}
use Rattle.list_form.specs.Loops.{accepted_after, OneRun, AllRun}
use Rattle.list_form.proofs.CutOff.{cut_chunk, cut_end}
use Rattle.list_form.proofs.Runs.{as_runs}
use Rattle.list_form.proofs.Walked.{Walked, walked_start, walked_accepted, walked_table, walked_place, walked_more, walked_done}

-- A ticket that answers n and leaves the words v, as the step does, and n put to its byte.
pub one_run : {i ok r n : ℕ} {v out new : List ℕ} {s : Answer} → n ≡ s.number → v ≡ s.table → r ≡ accepted_after ok n
    → new ≡ set out i n → OneRun i ok r v out new s
one_run {i} {ok} {out = out} number words p q =
    record { accepted = p ∙ ap (accepted_after ok) number; words = words; numbers = q ∙ ap (set out i) number }

-- Of the bytes of a list some are run as i tickets, and these are left.
pub record ByteWalk (one : List ℕ → List ℕ → Answer) (start room bytes left : List ℕ) (i ok : ℕ) (w out : List ℕ) : Type 0 where
  pub walked : Walked one start room (cut record_length bytes) (cut record_length left) i ok w out

pub byte_start : (one : List ℕ → List ℕ → Answer) (start room bytes left : List ℕ) {i : ℕ} → left ≡ bytes → i ≡ 0
    → length (cut record_length bytes) ≤ length room → ByteWalk one start room bytes left i 0 start room
byte_start one start room bytes left {i} all none h =
    rw (all, none) record { walked = walked_start one start room (cut record_length bytes) h }

module _ {one : List ℕ → List ℕ → Answer} {start room bytes left : List ℕ} {i ok : ℕ} {w out : List ℕ}
    (q : ByteWalk one start room bytes left i ok w out) where
  pub byte_accepted : ok ≤ i
  byte_accepted = walked_accepted q.walked

  pub byte_table : Keeps product one → Table product start → Table product w
  byte_table = walked_table q.walked

  pub byte_done : length left ≡ 0 → AllRun ok w room out (run_with one start (cut record_length bytes))
  byte_done h = walked_done (subst (λ l. Walked one start room (cut record_length bytes) l i ok w out)
      (cut_end record_length left h) q.walked)

  -- The next ticket, and what is left after it, as the iterator over the tickets gives them.
  module _ {size : ℕ} (ticket rest : List ℕ) (five : size ≡ record_length) (step : (left ≡ ticket ++ rest)
      × (length ticket ≡ min size (length left)) × (0 < length left)) where
    next : Walked one start room (cut record_length bytes) (ticket ∷ cut record_length rest) i ok w out
    next = subst (λ l. Walked one start room (cut record_length bytes) l i ok w out)
        (cut_chunk record_length (omega arith) left ticket rest step.0 (omega (arith, five, step.1)) step.2) q.walked

    module _ {place : ℕ} (here : place ≡ i) where
      pub byte_place : place < length out
      byte_place = omega (arith, here, walked_place next (omega arith))

      pub byte_more : {count r : ℕ} {v new : List ℕ} → count ≡ i + 1 → OneRun place ok r v out new (one w ticket)
          → ByteWalk one start room bytes rest count r v new
      byte_more {count} {r} {v} {new} more o =
          let run : OneRun i ok r v out new (one w ticket) = subst (λ k. OneRun k ok r v out new (one w ticket)) here o in
          subst (λ k. ByteWalk one start room bytes rest k r v new) (sym more) (record { walked = walked_more next run })

-- By the register's step, with operators' tickets or with anyone's.
pub register_done : (operator : Bool) {start room bytes left : List ℕ} {i ok : ℕ} {w out : List ℕ}
    → ByteWalk (step_as operator product) start room bytes left i ok w out → length left ≡ 0
    → AllRun ok w room out (register_as operator product start bytes)
register_done operator {start} {room} {bytes} {left} {i} {ok} {w} {out} q h =
    subst (AllRun ok w room out) (sym (as_runs operator start bytes)) (byte_done q h)
