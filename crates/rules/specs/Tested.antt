-- Of a test that is passed: what it may be asked of, and what its answers to the words of one kind were.
use Rattle.std.specs.Prelude.{Bool, true, false, ℕ, ◌<◌, ◌≡◌, List, length}
use Rattle.table.specs.Parts.{kind_of, first_of, second_of, third_of}
use Rattle.table.specs.Counted.{Id}
use Rattle.spans.specs.Spans.{at}
use Rattle.spans.specs.Graphs.{Each}

-- It may be asked of all ids.
abbrev pub TakesIds : (ℕ → ℕ → ℕ → Type 0) → Type 0
TakesIds Takes = (a b c : ℕ) → Id a → Id b → Id c → Takes a b c

-- It gave true for the ids of each word of kind k, or false for those of one.
pub data Tested (table : List ℕ) (k : ℕ) (Gives : ℕ → ℕ → ℕ → Bool → Type 0) : Bool → Type 0 where
  all_true : Each table k (λ a b c. Gives a b c true) → Tested table k Gives true
  one_false : (i : ℕ) → i < length table → kind_of (at table i) ≡ k
      → Gives (first_of (at table i)) (second_of (at table i)) (third_of (at table i)) false
      → Tested table k Gives false
