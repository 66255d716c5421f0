-- The words of a property's values, and whether each value has one holder. x holds the value y through the
-- property z by PI(x,y,z).
use Rattle.std.specs.Prelude.{ℕ, ◌<◌, ◌≡◌, List, length}
use Rattle.table.specs.Parts.{kind_of, second_of, third_of}
use Rattle.spans.specs.Spans.{at}
use Rattle.spans.specs.Graphs.{Each}

-- The word at place i is that of a value of property z.
abbrev pub ValueAt : List ℕ → ℕ → ℕ → Type 0
ValueAt table z i = (i < length table) × (kind_of (at table i) ≡ 10) × (third_of (at table i) ≡ z)

-- Through property z each value has one holder: two words of z are of two values.
abbrev pub HeldOnce : List ℕ → ℕ → Type 0
HeldOnce table z =
    (i j : ℕ) → ValueAt table z i → ValueAt table z j → second_of (at table i) ≡ second_of (at table j) → i ≡ j

-- Through each exclusive property each value has one holder.
abbrev pub AllHeldOnce : List ℕ → Type 0
AllHeldOnce table = Each table 11 (λ x y z. HeldOnce table x)

-- Some word is of kind 11.
abbrev pub HasExclusive : List ℕ → Type 0
HasExclusive table = (i : ℕ) × (i < length table) × (kind_of (at table i) ≡ 11)
