-- The exclusive properties at one or over it, and the words of one kind.
use Rattle.std.specs.Prelude.{ℕ, Bool, ◌&&◌, List, eqb}
use Rattle.rdfs.specs.Facts.{Fact, excl, has}
use Rattle.rdfs.specs.Deletion.{under}
use Rattle.table.specs.Parts.{kind_of}
use Rattle.table.specs.Counted.{Full, Id}
use Rattle.flags.specs.Flags.{none, Whole, Says}

-- x is exclusive, and is p or over p.
abbrev pub exclusive_above : List Fact → ℕ → ℕ → Bool
exclusive_above K p x = has K (excl x) && under K 6 x p

-- Facts, a property, and a flag for each id, none set.
pub record Unflagged (facts : List ℕ) (p : ℕ) (flags : List Bool) : Type 0 where
  pub full : Full facts
  pub id : Id p
  pub whole : Whole flags
  pub unset : Says flags none

-- The word is of kind k.
abbrev pub of_kind : ℕ → ℕ → Bool
of_kind k word = eqb (kind_of word) k
