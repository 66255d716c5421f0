-- What reading into a buffer says of the buffer, and of the input.
use Rattle.std.specs.Prelude.{ℕ, ◌≤◌, ◌<◌, ◌≡◌, Option, None, Some, List, length, take}

-- The bytes that were read, if the reading did not fail, are within a buffer of this size.
abbrev pub Within : Option ℕ → ℕ → Type 0
Within (Some n) size = n ≤ size
Within None size = Unit {0}

-- The bytes that were read end before a buffer of this size does: with `Begins` they are the whole input.
abbrev pub Ends : Option ℕ → ℕ → Type 0
Ends (Some n) size = n < size
Ends None size = Unit {0}

-- The input, from where the reading began, if n bytes of it stand at the buffer's start: they are its first,
-- and all of it if they do not fill the buffer. std's `Read::read` puts the input's bytes there, but no contract
-- says so: promises of the programs speak of every input of which this holds.
pub record Begins (n : ℕ) (buffer input : List ℕ) : Type 0 where
  pub first : take n input ≡ take n buffer
  pub all : n < length buffer → length input ≡ n
