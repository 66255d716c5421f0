-- Numbers written over those that stand in a lent run.
use Rattle.std.specs.Prelude.{ℕ, ◌+◌, ◌≤◌, ◌≡◌, List, ◌++◌, length, take, drop}

-- Some numbers in place of those that stood from place i on.
abbrev pub over : List ℕ → ℕ → List ℕ → List ℕ
over l i new = take i l ++ (new ++ drop (i + length new) l)

-- The first `at` numbers are those of the new run; the others are as they were.
pub record Overlaid (new out₀ out : List ℕ) (at : ℕ) : Type 0 where
  pub within : at ≤ length new
  pub so_far : out ≡ take at new ++ drop at out₀
