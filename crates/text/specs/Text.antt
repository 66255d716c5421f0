-- Text that is put into a buffer piece by piece.
use Rattle.std.specs.Prelude.{ℕ, ◌+◌, ◌≤◌, ◌≡◌, List, [], ◌∷◌, ◌++◌, length, take}
use Rattle.io.specs.Digits.{last_digits, IsDigitCount}

-- A number in decimal, with no zero in front, and a byte after it.
abbrev pub Number : ℕ → ℕ → List ℕ → Type 0
Number n after text = (k : ℕ) × IsDigitCount 10 1 n k × (text ≡ last_digits 10 k n ++ (after ∷ []))

-- Such a text has room in a buffer from place `at` on.
abbrev pub Fits : (List ℕ → Type 0) → ℕ → List ℕ → Type 0
Fits Text at out = (text : List ℕ) → Text text → at + length text ≤ length out

-- Such a text stands in a buffer from place `at` on and up to r; what stood before it is there still.
pub record Puts (Text : List ℕ → Type 0) (at r : ℕ) (before after : List ℕ) : Type 0 where
  pub text : List ℕ
  pub is : Text text
  pub there : take r after ≡ take at before ++ text
  pub end : r ≡ at + length text
