-- What the host's calls of Ask 6 answer and leave, for all bytes and all words of two runs: reading, then
-- asking; or reading, committing and writing.
use Rattle.std.specs.Prelude.{ℕ, ◌≡◌, cond, List, eqb}
use Rattle.rdfs.specs.Numbers.{product}
use Rattle.rdfs.specs.Register.{Answer}
use Rattle.reading.specs.ReadPromise.{read_answer, read_words}
use Rattle.exchange.specs.ToText.{room}
use Rattle.packing.specs.Packed.{packed, refused_else}
use Rattle.preview.specs.Previews.{Asked, asking, committing}
use Rattle.host_ticket.specs.HostTicket.{HostPromiseOf}

-- The ticket asked for, and committed, on the words that were read.
unfoldable pub asked_on : (image ticket added removed : List ℕ) → Asked
asked_on image ticket added removed = asking product (read_words room image) ticket added removed

unfoldable pub committed_on : (image ticket added removed : List ℕ) → Answer
committed_on image ticket added removed = committing product (read_words room image) ticket added removed

-- The refusals of reading; else the number and the counts of asking.
abbrev pub ask_number : List ℕ → Asked → ℕ
ask_number image asked =
    refused_else (read_answer room image) (packed asked.number asked.added asked.removed 0)

-- A run as asking leaves it; as it was if reading is refused.
abbrev pub run_after : (image run asked : List ℕ) → List ℕ
run_after image run asked = cond (eqb (read_answer room image) 0) asked run

-- `vimelosa_ask`: the number, and every word of the runs.
pub record HostAskPromise (image ticket added removed : List ℕ) (number : ℕ)
    (added' removed' : List ℕ) : Type 0 where
  pub answer : number ≡ ask_number image (asked_on image ticket added removed)
  pub added_run : added' ≡ run_after image added (asked_on image ticket added removed).added_run
  pub removed_run : removed' ≡ run_after image removed (asked_on image ticket added removed).removed_run

-- `vimelosa_commit`: as a call with one ticket, by the answer of committing.
abbrev pub HostCommitPromise : (image ticket added removed output : List ℕ) → ℕ → List ℕ → Type 0
HostCommitPromise image ticket added removed output number left =
    HostPromiseOf image output (committed_on image ticket added removed) number left
