-- A loop over the bytes of a list that keeps no answers: it walks as one that does, whatever the answer bytes are. Assumes
-- nothing.
use Prim.Native.Nat.{ℕ, ◌+◌, ◌<◌, min}
use mathlib.Core.Path.{◌≡◌, refl}
use mathlib.Core.Bool.{Bool}
use mathlib.Core.List.{List, ◌++◌}
use native.Mathlib.Omega.{arith}
use lib.ListN.{length, set}
use Rattle.rdfs.specs.Numbers.{product, record_length}
use Rattle.rdfs.specs.Register.{Answer, run_with, cut, Table}
use Rattle.rdfs.specs.Operators.{step_as, register_as}
use Rattle.rdfs.proofs.Register.RunLaws.{Keeps, runs_numbers}
use Rattle.list_form.specs.Loops.{accepted_after}
use Rattle.list_form.proofs.ByteWalk.{ByteWalk, byte_start, byte_table, byte_more, register_done}

-- Some bytes of a list are run from the words `start`, these are left, and the words are w.
pub record Unanswered (one : List ℕ → List ℕ → Answer) (start bytes left w : List ℕ) : Type 0 where
  pub room : List ℕ
  pub place : ℕ
  pub accepted : ℕ
  pub out : List ℕ
  pub walk : ByteWalk one start room bytes left place accepted w out

pub unanswered_start : (one : List ℕ → List ℕ → Answer) (start bytes left : List ℕ) → left ≡ bytes
    → Unanswered one start bytes left start
unanswered_start one start bytes left whole =
    let all : List (List ℕ) = cut record_length bytes in
    let room : List ℕ = (run_with one start all).numbers in
    record {
      room = room;
      place = 0;
      accepted = 0;
      out = room;
      walk = byte_start one start room bytes left whole refl (omega (arith, runs_numbers one all start));
    }

module _ {one : List ℕ → List ℕ → Answer} {start bytes left w : List ℕ} (q : Unanswered one start bytes left w) where
  pub unanswered_table : Keeps product one → Table product start → Table product w
  unanswered_table = byte_table q.walk

  -- The next ticket, and what is left after it, as the iterator over the tickets gives them; it leaves the words v.
  pub unanswered_more : {size : ℕ} (ticket rest : List ℕ) → size ≡ record_length → (left ≡ ticket ++ rest)
      × (length ticket ≡ min size (length left)) × (0 < length left) → {v : List ℕ}
      → v ≡ (one w ticket).table → Unanswered one start bytes rest v
  unanswered_more ticket rest five step e =
      let n : ℕ = (one w ticket).number in
      record {
        room = q.room;
        place = q.place + 1;
        accepted = accepted_after q.accepted n;
        out = set q.out q.place n;
        walk = byte_more q.walk ticket rest five step refl refl (record { accepted = refl; words = e; numbers = refl });
      }

-- By the register's step, with operators' tickets or with anyone's.
pub unanswered_done : (operator : Bool) {start bytes left w : List ℕ} → Unanswered (step_as operator product) start bytes left w
    → length left ≡ 0 → w ≡ (register_as operator product start bytes).table
unanswered_done operator q h = (register_done operator q.walk h).words
