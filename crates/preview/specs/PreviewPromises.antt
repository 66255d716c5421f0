-- What the two calls promise, for all words of a table, all bytes of a ticket and all words of two runs.
use Rattle.std.specs.Prelude.{ℕ, ◌≡◌, List}
use Rattle.rdfs.specs.Numbers.{product}
use Rattle.rdfs.specs.Lists.{◌∈◌, Ascending}
use Rattle.rdfs.specs.Words.{filled}
use Rattle.table.specs.Refused.{answer_of}
use Rattle.ticket.specs.Answered.{Outcome, added_by, removed_by, Answered}
use Rattle.preview.specs.Previews.{Asked, asking, committing}

-- A call answers as asking does, and leaves its runs.
pub record Previewed (outcome : Outcome) (added removed : List ℕ) (asked : Asked) : Type 0 where
  pub number : answer_of outcome ≡ asked.number
  pub added_count : added_by outcome ≡ asked.added
  pub removed_count : removed_by outcome ≡ asked.removed
  pub added_run : added ≡ asked.added_run
  pub removed_run : removed ≡ asked.removed_run

-- `ask`: the table is lent to be read only. The theorems on the calls take these promises as their premises,
-- and proofs/PreviewTied says that they are the contracts in the source.
abbrev pub AskPromise : (table bytes added removed : List ℕ) → Outcome → (added' removed' : List ℕ) → Type 0
AskPromise table bytes added removed outcome added' removed' =
    Previewed outcome added' removed' (asking product table bytes added removed)

-- `commit`.
abbrev pub CommitPromise : (before bytes added removed : List ℕ) → Outcome → (after : List ℕ) → Type 0
CommitPromise before bytes added removed outcome after =
    Answered outcome after (committing product before bytes added removed)

-- What the theorems on the calls speak of beside them: the numbers of two answers are the same; a list is the
-- words that one table has and another has not, ascending.
pub record Same (r x : Outcome) : Type 0 where
  pub answer : answer_of r ≡ answer_of x
  pub added : added_by r ≡ added_by x
  pub removed : removed_by r ≡ removed_by x

pub record Difference (l has lacks : List ℕ) : Type 0 where
  pub ascending : Ascending l
  pub only : (n : ℕ) → n ∈ l → (n ∈ filled has) × (n ∈ filled lacks → ⊥)
  pub all : (n : ℕ) → n ∈ filled has → (n ∈ filled lacks → ⊥) → n ∈ l
