-- Demand 3 of document 01: one statement about a whole list. `demand_3` in proofs/ListTheorem proves it.
use Rattle.std.specs.Prelude.{ℕ, suc, ◌*◌, ◌<◌, ◌≡◌, List, [], ◌∷◌, map, T, length, take, get_or}
use Rattle.rdfs.specs.Numbers.{product, record_length}
use Rattle.rdfs.specs.Lists.{◌∈◌, ◌⊆◌, concat_map}
use Rattle.rdfs.specs.Words.{facts}
use Rattle.rdfs.specs.Tickets.{decoded, inserts, deletes, named, asked}
use Rattle.rdfs.specs.Register.{Done, cut, register, Table}
use Rattle.rdfs.specs.Orders.{SameTickets, InOrder, AllInsertions, AllAccepted}
use Rattle.ticket_form.specs.declared.fields.Ticket.{Ticket}
use Rattle.table.specs.Refused.{answer_of}
use Rattle.ticket.specs.Answered.{added_by, removed_by}
use Rattle.list_form.specs.Listing.{ListOutcome, accepted_in, refused_in, accepted_of, refused_of, written, record_bytes}
use Rattle.list.specs.CallContracts.{Calls, Single, OneByOne, left_by}

-- Single calls do as the register.
pub record RanSingly (table : List ℕ) (singles : List Single) (done : Done) : Type 0 where
  pub words : left_by table singles ≡ done.table
  pub numbers : map (λ s. answer_of s.answer) singles ≡ done.numbers
  pub counts : concat_map (λ s. added_by s.answer ∷ removed_by s.answer ∷ []) singles ≡ done.counts

-- A list call runs the list and does as the register: its answer bytes are the numbers in order, then the
-- bytes as they were; accepted counts the zeros among the numbers, and refused the others.
pub record Ran (answers : List ℕ) (outcome : ListOutcome) (after out : List ℕ) (done : Done) : Type 0 where
  pub answer : answer_of outcome ≡ 0
  pub words : after ≡ done.table
  pub numbers : out ≡ written done.numbers answers
  pub accepted : accepted_in outcome ≡ accepted_of done.numbers
  pub refused : refused_in outcome ≡ refused_of done.numbers

-- Every call on a list, from the same words at first, does as the register. A list of whole records may be
-- handed over as ticket structs.
pub record AsRegister (calls : Calls) (table bytes answers : List ℕ) : Type 0 where
  pub singly : (singles : List Single) → OneByOne calls.apply table (cut record_length bytes) singles
      → RanSingly table singles (register product table bytes)
  pub each : (outcome : ListOutcome) (after out : List ℕ) → calls.apply_each table bytes answers outcome after out
      → Ran answers outcome after out (register product table bytes)
  pub listed : (outcome : ListOutcome) (after out : List ℕ) → calls.apply_list table bytes answers outcome after out
      → Ran answers outcome after out (register product table bytes)
  pub records : (tickets : List Ticket) → record_bytes tickets ≡ bytes → (outcome : ListOutcome) (after out : List ℕ)
      → calls.apply_records table tickets answers outcome after out
      → Ran answers outcome after out (register product table bytes)

-- The list cut off after so many tickets.
abbrev pub list_cut_off : ℕ → List ℕ → List ℕ
list_cut_off tickets bytes = take (tickets * record_length) bytes

-- What holds after a ticket, by the words before and after it and its number: every rule; refused, it changed
-- no word; accepted, its asked facts are there, or its fact is gone.
pub record AfterTicket (before after ticket : List ℕ) (number : ℕ) : Type 0 where
  pub rules : Table product after
  pub refused : (number ≡ 0 → ⊥) → after ≡ before
  pub there_are : number ≡ 0 → T (inserts (decoded ticket)) → asked (decoded ticket) ⊆ facts product after
  pub is_gone : number ≡ 0 → T (deletes (decoded ticket)) → named (decoded ticket) ∈ facts product after → ⊥

-- The demand, for a list of bytes run from the words of a table with these answer bytes.
pub record Demand3 (calls : Calls) (table bytes answers : List ℕ) : Type 0 where
  -- The list calls, the single calls one after another and the register end in the same words and give each
  -- ticket the same number.
  pub same : AsRegister calls table bytes answers
  -- So they do on the list cut off after each ticket, which has the list's first tickets; the single calls
  -- leave the register's words there.
  pub cut_off : (i : ℕ) → AsRegister calls table (list_cut_off i bytes) answers
  pub first_tickets : (i : ℕ) → cut record_length (list_cut_off i bytes) ≡ take i (cut record_length bytes)
  pub single_words : (singles : List Single) → OneByOne calls.apply table (cut record_length bytes) singles
      → (i : ℕ)
      → left_by table (take i singles) ≡ (register product table (list_cut_off i bytes)).table
  -- After each ticket.
  pub after_each : (i : ℕ) → i < length (cut record_length bytes)
      → AfterTicket (register product table (list_cut_off i bytes)).table
      (register product table (list_cut_off (suc i) bytes)).table
      (get_or (cut record_length bytes) i []) (get_or (register product table bytes).numbers i 0)
  -- Insertions only, all accepted: the list is in order.
  pub ordered : AllInsertions (cut record_length bytes)
      → AllAccepted (register product table bytes).numbers
      → InOrder (facts product table) (cut record_length bytes)
  -- Then every rearrangement in order, with as many answer bytes, is accepted whole and ends in the same
  -- words.
  pub rearranged : AllInsertions (cut record_length bytes)
      → AllAccepted (register product table bytes).numbers
      → (other room : List ℕ) → length room ≡ length answers
      → SameTickets (cut record_length bytes) (cut record_length other)
      → InOrder (facts product table) (cut record_length other)
      → AsRegister calls table other room × AllAccepted (register product table other).numbers
      × ((register product table other).table ≡ (register product table bytes).table)
