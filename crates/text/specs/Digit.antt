-- A hexadecimal digit as a byte.
use Rattle.std.specs.Prelude.{ℕ, ◌-◌, ◌&&◌, cond, leb}

-- The value of the digits 0 to 9 and a to f; 0 for another byte.
abbrev pub digit_value : ℕ → ℕ
digit_value x = cond (leb 48 x && leb x 57) (x - 48) (cond (leb 97 x && leb x 102) (x - 87) 0)
