-- The values that have been seen while the words of a property are gone through are stamped by it.
use Rattle.std.specs.Prelude.{ℕ, suc, ◌≤◌, ◌≡◌, List, length}
use Rattle.table.specs.Counted.{Id}
use Rattle.spans.specs.Spans.{id_count, at}
use Rattle.holders.specs.Links.{Linked}

-- The stamp of property z; 0 is none's.
abbrev pub stamp_of : ℕ → ℕ
stamp_of z = suc z

-- No stamp is higher.
abbrev pub StampedUpTo : List ℕ → ℕ → Type 0
StampedUpTo seen stamp = (y : ℕ) → at seen y ≤ stamp

-- The words with their links, a property, and stamps that are lower than its own.
pub record Walkable (table links seen : List ℕ) (z : ℕ) : Type 0 where
  pub linked : Linked table links
  pub id : Id z
  pub ids : length seen ≡ id_count
  pub lower : StampedUpTo seen z
