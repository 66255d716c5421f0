-- A table before and after a ticket was tried on a copy of it, beside two runs.
use Rattle.std.specs.Prelude.{ℕ, Bool, ◌&&◌, List}
use Rattle.rdfs.specs.Lists.{same_list}
use Rattle.differences.specs.Besides.{missing, Missing}

-- The old table and the new one, with the numbers of words that came and that went.
pub record Tried (old new : List ℕ) (added removed : ℕ) : Type 0 where
  pub came : Missing new old added
  pub went : Missing old new removed

-- The runs are exactly these words.
abbrev pub is_current : (old new added removed : List ℕ) → Bool
is_current old new added removed = same_list added (missing new old) && same_list removed (missing old new)
