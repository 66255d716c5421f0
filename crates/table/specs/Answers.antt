-- What the answer of a test means.
use Rattle.std.specs.Prelude.{Bool, true, false}

-- True exactly if the statement holds.
abbrev pub Decides : Bool → Type 0 → Type 0
Decides true P = P
Decides false P = P → ⊥
