-- What the functions under the list calls answer and leave: one ticket of a list, a loop over tickets, the
-- counts.
use Rattle.std.specs.Prelude.{ℕ, ◌+◌, ◌-◌, ◌/◌, ◌%◌, ◌≡◌, cond, List, eqb, set}
use Rattle.rdfs.specs.Numbers.{record_length}
use Rattle.rdfs.specs.Register.{Answer, Done}
use Rattle.list_form.specs.declared.answers.Listed.{Listed}
use Rattle.list_form.specs.Listing.{accepted_of, written}

-- How many tickets a number of bytes makes: the whole records, and one for what is left over.
abbrev pub tickets_in : ℕ → ℕ
tickets_in bytes = bytes / record_length + cond (eqb (bytes % record_length) 0) 0 1

-- How many are accepted with a ticket of this number, if so many are of those before it.
abbrev pub accepted_after : ℕ → ℕ → ℕ
accepted_after before number = before + cond (eqb number 0) 1 0

-- One ticket of a list, by its place and how many are accepted before it and with it: its number goes to its
-- byte.
pub record OneRun (place before with_it : ℕ) (table answers out : List ℕ) (answer : Answer) : Type 0 where
  pub accepted : with_it ≡ accepted_after before answer.number
  pub words : table ≡ answer.table
  pub numbers : out ≡ set answers place answer.number

-- A loop over tickets, by what is to be done with them: how many it accepts, and the words and answer bytes
-- that it leaves.
pub record AllRun (total : ℕ) (table answers out : List ℕ) (done : Done) : Type 0 where
  pub accepted : total ≡ accepted_of done.numbers
  pub words : table ≡ done.table
  pub numbers : out ≡ written done.numbers answers

-- The answer of a list of so many tickets that is not refused.
abbrev pub listed_of : ℕ → ℕ → Listed
listed_of tickets accepted = record { accepted = accepted; refused = tickets - accepted }
