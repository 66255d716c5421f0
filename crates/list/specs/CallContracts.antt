-- The calls that run tickets, what they promise, and single calls one after another.
use Rattle.std.specs.Prelude.{ℕ, List, [], ◌∷◌}
use Rattle.ticket_form.specs.declared.fields.Ticket.{Ticket}
use Rattle.ticket.specs.Answered.{Outcome, ApplyPromise}
use Rattle.list_form.specs.Listing.{ListOutcome, ListPromise, RecordsPromise}

-- A call with one ticket, and one with a list as bytes: by the words and bytes that it is lent, what it may
-- answer, and the words and answer bytes that it may leave.
abbrev pub SingleCall : Type 1
SingleCall = (table ticket : List ℕ) → Outcome → List ℕ → Type 0

abbrev pub ListCall : Type 1
ListCall = (table bytes answers : List ℕ) → ListOutcome → List ℕ → List ℕ → Type 0

-- The calls.
pub record Calls : Type 1 where
  pub apply : SingleCall
  pub apply_each : ListCall
  pub apply_list : ListCall
  pub apply_records : (table : List ℕ) (tickets : List Ticket) (answers : List ℕ) → ListOutcome → List ℕ → List ℕ
      → Type 0

-- What they promise; in each call's crate, proofs/ApplyTied, ApplyEachTied, ApplyListTied or
-- ApplyRecordsTied says that this is its contract in the source. Nothing else is known of the calls.
pub record Contracts (calls : Calls) : Type 0 where
  pub apply : (table ticket : List ℕ) (outcome : Outcome) (after : List ℕ)
      → calls.apply table ticket outcome after → ApplyPromise table ticket outcome after
  pub apply_each : (table bytes answers : List ℕ) (outcome : ListOutcome) (after out : List ℕ)
      → calls.apply_each table bytes answers outcome after out → ListPromise table bytes answers outcome after
      out
  pub apply_list : (table bytes answers : List ℕ) (outcome : ListOutcome) (after out : List ℕ)
      → calls.apply_list table bytes answers outcome after out → ListPromise table bytes answers outcome after
      out
  pub apply_records : (table : List ℕ) (tickets : List Ticket) (answers : List ℕ) (outcome : ListOutcome)
      (after out : List ℕ) → calls.apply_records table tickets answers outcome after out
      → RecordsPromise table tickets answers outcome after out

-- What a single call answers, and the words that it leaves.
pub record Single : Type 0 where
  pub answer : Outcome
  pub table : List ℕ

-- Single calls one after another, one for each ticket, each on the words that the one before left.
abbrev pub OneByOne : SingleCall → List ℕ → List (List ℕ) → List Single → Type 0
OneByOne call table [] [] = Unit {0}
OneByOne call table [] (single ∷ singles) = ⊥
OneByOne call table (ticket ∷ tickets) [] = ⊥
OneByOne call table (ticket ∷ tickets) (single ∷ singles) =
    call table ticket single.answer single.table × OneByOne call single.table tickets singles

-- The words that the last of them leaves; those at the start if there is none.
abbrev pub left_by : List ℕ → List Single → List ℕ
left_by table [] = table
left_by table (single ∷ singles) = left_by single.table singles
