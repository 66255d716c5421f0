-- What the list calls answer and leave, for all words of a table, bytes of a list and answer bytes.
use Rattle.std.specs.Prelude.{ℕ, zero, suc, ◌≡◌, Bool, true, false, not, List, [], ◌∷◌, ◌++◌, eqb, ltb, length, drop, Result, Ok, Err}
use Rattle.rdfs.specs.Numbers.{product, record_length}
use Rattle.rdfs.specs.Lists.{count, concat_map}
use Rattle.rdfs.specs.Refusals.{first_true, table_refusal}
use Rattle.rdfs.specs.Register.{Done, cut}
use Rattle.rdfs.specs.Operators.{register_as}
use Rattle.table.specs.declared.refusals.Refusal.{Refusal}
use Rattle.table.specs.Refused.{answer_of}
use Rattle.ticket_form.specs.TicketForm.{bytes_of}
use Rattle.ticket_form.specs.declared.fields.Ticket.{Ticket}
use Rattle.list_form.specs.declared.answers.Listed.{Listed}

-- 14: fewer answer bytes than tickets. An empty list needs none.
abbrev pub few_answers : ℕ → ℕ → Bool
few_answers tickets room = ltb room tickets

-- 1, 2, 3, 14, or 0, of a list of so many tickets.
abbrev pub refusal_of : List ℕ → ℕ → ℕ → ℕ
refusal_of table tickets room = table_refusal product table (first_true ((14, few_answers tickets room) ∷ []))

-- Of a list of bytes.
abbrev pub list_refusal : List ℕ → List ℕ → List ℕ → ℕ
list_refusal table bytes answers = refusal_of table (length (cut record_length bytes)) (length answers)

-- How many of the tickets' numbers are 0, and how many are not.
abbrev pub accepted_of : List ℕ → ℕ
accepted_of numbers = count (λ n. eqb n 0) numbers

abbrev pub refused_of : List ℕ → ℕ
refused_of numbers = count (λ n. not (eqb n 0)) numbers

-- The numbers in order, then the bytes as they were.
abbrev pub written : List ℕ → List ℕ → List ℕ
written numbers answers = numbers ++ drop (length numbers) answers

-- A list's answer, and the words and answer bytes that it leaves.
pub record Listing : Type 0 where
  pub answer : ℕ
  pub accepted : ℕ
  pub refused : ℕ
  pub table : List ℕ
  pub answers : List ℕ

-- By its refusal, and by what is done if it is run. Refused, words and answer bytes are as found.
abbrev pub listing_by : ℕ → List ℕ → List ℕ → Done → Listing
listing_by zero table answers done = record {
  answer = 0;
  accepted = accepted_of done.numbers;
  refused = refused_of done.numbers;
  table = done.table;
  answers = written done.numbers answers;
}
listing_by (suc number) table answers done =
    record { answer = suc number; accepted = 0; refused = 0; table = table; answers = answers }

-- The list call with operators' tickets or with anyone's, on the words of a table, the bytes of a list and
-- answer bytes, whatever they are.
unfoldable pub listing_as : (operator : Bool) → List ℕ → List ℕ → List ℕ → Listing
listing_as operator table bytes answers =
    let done : Done = register_as operator product table bytes in
    listing_by (list_refusal table bytes answers) table answers done

abbrev pub listing : List ℕ → List ℕ → List ℕ → Listing
listing = listing_as false

abbrev pub operator_listing : List ℕ → List ℕ → List ℕ → Listing
operator_listing = listing_as true

-- What a list call answers; how many tickets were accepted and how many refused, none if the list is refused.
abbrev pub ListOutcome : Type 0
ListOutcome = Result Listed Refusal

abbrev pub accepted_in : ListOutcome → ℕ
accepted_in (Ok listed) = listed.accepted
accepted_in (Err refusal) = 0

abbrev pub refused_in : ListOutcome → ℕ
refused_in (Ok listed) = listed.refused
refused_in (Err refusal) = 0

-- A call answers and leaves this.
pub record ListAnswered (outcome : ListOutcome) (table answers : List ℕ) (whole : Listing) : Type 0 where
  pub answer : answer_of outcome ≡ whole.answer
  pub accepted : accepted_in outcome ≡ whole.accepted
  pub refused : refused_in outcome ≡ whole.refused
  pub words : table ≡ whole.table
  pub numbers : answers ≡ whole.answers

-- The bytes of tickets, one after another.
abbrev pub record_bytes : List Ticket → List ℕ
record_bytes tickets = concat_map bytes_of tickets

-- What `apply_list` and `apply_each` promise, for all words of a table, bytes of a list and answer bytes: the
-- answer, and the words and answer bytes that they leave. Demand 3 takes this as a premise, and
-- proofs/ApplyListTied and proofs/ApplyEachTied of their crates say that it is the contract in the source.
abbrev pub ListPromise : (before bytes answers : List ℕ) → ListOutcome → (after out : List ℕ) → Type 0
ListPromise before bytes answers outcome after out =
    ListAnswered outcome after out (listing before bytes answers)

-- What `apply_operator_list` promises: the same of operators' tickets. proofs/OperatorListTied of its crate
-- says that it is the contract in the source.
abbrev pub OperatorListPromise : (before bytes answers : List ℕ) → ListOutcome → (after out : List ℕ) → Type 0
OperatorListPromise before bytes answers outcome after out =
    ListAnswered outcome after out (operator_listing before bytes answers)

-- What `apply_records` promises: the same of its tickets' bytes.
abbrev pub RecordsPromise : (before : List ℕ) (tickets : List Ticket) (answers : List ℕ) → ListOutcome
    → (after out : List ℕ) → Type 0
RecordsPromise before tickets answers = ListPromise before (record_bytes tickets) answers
