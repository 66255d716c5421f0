-- What a lookup among facts is given.
use Rattle.std.specs.Prelude.{ℕ, List, [], ◌∷◌}
use Rattle.table.specs.Counted.{Full, Id}

-- Ids up to the highest, one or more.
abbrev pub Ids : List ℕ → Type 0
Ids [] = Unit {0}
Ids (x ∷ []) = Id x
Ids (x ∷ y ∷ l) = Id x × Ids (y ∷ l)

-- The facts of a table, and the ids that are looked up in them.
pub record Looked (facts : List ℕ) (l : List ℕ) : Type 0 where
  pub full : Full facts
  pub ids : Ids l
