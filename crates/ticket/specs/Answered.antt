-- What the calls of this crate answer and leave, beside the plain register's answer.
use Rattle.std.specs.Prelude.{ℕ, ◌-◌, ◌≤◌, ◌≡◌, Bool, ◌||◌, List, T, eqb, Result, Ok, Err}
use Rattle.rdfs.specs.Numbers.{product}
use Rattle.rdfs.specs.Register.{Answer, step}
use Rattle.table.specs.declared.refusals.Refusal.{Refusal}
use Rattle.table.specs.Refused.{answer_of}
use Rattle.ticket.specs.declared.answer.Applied.{Applied}

-- What a call answers, and how many facts it added and removed: none if it is refused.
abbrev pub Outcome : Type 0
Outcome = Result Applied Refusal

abbrev pub added_by : Outcome → ℕ
added_by (Ok applied) = applied.added
added_by (Err refusal) = 0

abbrev pub removed_by : Outcome → ℕ
removed_by (Ok applied) = applied.removed
removed_by (Err refusal) = 0

-- A call answers as the register does, and leaves its words.
pub record Answered (outcome : Outcome) (after : List ℕ) (answer : Answer) : Type 0 where
  pub number : answer_of outcome ≡ answer.number
  pub added : added_by outcome ≡ answer.added
  pub removed : removed_by outcome ≡ answer.removed
  pub words : after ≡ answer.table

-- The words left are the register's; of a work table, which need not keep them, only if the ticket is
-- accepted.
abbrev pub Leaves : (keep : Bool) → (after : List ℕ) → Answer → Type 0
Leaves keep after answer = T (keep || eqb answer.number 0) → after ≡ answer.table

pub record AnsweredAs (keep : Bool) (outcome : Outcome) (after : List ℕ) (answer : Answer) : Type 0 where
  pub numbers : Answered outcome answer.table answer
  pub words : Leaves keep after answer

-- What `apply` promises, for all words of a table and all bytes of a ticket. The theorems on the call take
-- this as their premise, and proofs/ApplyTied says that it is the contract in the source.
abbrev pub ApplyPromise : (before bytes : List ℕ) → Outcome → (after : List ℕ) → Type 0
ApplyPromise before bytes outcome after = Answered outcome after (step product before bytes)

-- What an inner step answers: how many facts there are then, or its refusal.
abbrev pub Step : Type 0
Step = Result ℕ Refusal

-- Document 01's counts for each case of an inner step on a table of this many facts.
abbrev pub added_of : ℕ → Step → ℕ
added_of count (Ok after) = after - count
added_of count (Err refusal) = 0

abbrev pub removed_of : ℕ → Step → ℕ
removed_of count (Ok after) = count - after
removed_of count (Err refusal) = 0

-- The facts after it, no more than a table can have.
abbrev pub Fits : Step → Type 0
Fits (Ok after) = after ≤ product.most
Fits (Err refusal) = Unit {0}

-- An inner step does as the register.
pub record Stepped (count : ℕ) (stepped : Step) (after : List ℕ) (answer : Answer) : Type 0 where
  pub number : answer_of stepped ≡ answer.number
  pub added : added_of count stepped ≡ answer.added
  pub removed : removed_of count stepped ≡ answer.removed
  pub words : after ≡ answer.table
  pub fits : Fits stepped

pub record SteppedAs (keep : Bool) (count : ℕ) (stepped : Step) (after : List ℕ) (answer : Answer) : Type 0
  where
    pub numbers : Stepped count stepped answer.table answer
    pub words : Leaves keep after answer
