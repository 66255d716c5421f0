-- A table before and after one word is stored.
use Rattle.std.specs.Prelude.{ℕ, ◌≤◌, ◌<◌, ◌≡◌, List, length}
use Rattle.rdfs.specs.Lists.{◌∈◌}
use Rattle.rdfs.specs.Words.{filled, padded, put}
use Rattle.table.specs.declared.room.Stored.{Stored}
use Rattle.table.specs.declared.room.Stored.TheVariants.{There, Added, NoRoom}

-- The word was not in the table, which had room for it and has it now.
pub record PutIn (table : List ℕ) (word : ℕ) (after : List ℕ) : Type 0 where
  pub new : word ∈ filled table → ⊥
  pub room : length (filled table) < length table
  pub words : after ≡ padded (length table) (put word (filled table))

-- The word was not in the table, which has no room for it and is as it was.
pub record LeftOut (table : List ℕ) (word : ℕ) (after : List ℕ) : Type 0 where
  pub new : word ∈ filled table → ⊥
  pub full : length table ≤ length (filled table)
  pub words : after ≡ table

-- `store`: one word goes in, and nothing that follows.
abbrev pub StoreMeans : List ℕ → ℕ → List ℕ → Stored → Type 0
StoreMeans table word after There = (word ∈ filled table) × (after ≡ table)
StoreMeans table word after Added = PutIn table word after
StoreMeans table word after NoRoom = LeftOut table word after
