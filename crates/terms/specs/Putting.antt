-- Bytes put over lent ones.
use Rattle.std.specs.Prelude.{ℕ, ◌+◌, ◌≤◌, ◌≡◌, List, length}
use Rattle.table.specs.Overlay.{over}

-- The bytes have room for others from place `at` on.
abbrev pub Room : List ℕ → ℕ → List ℕ → Type 0
Room output at new = at + length new ≤ length output

-- They stand there now, up to place `next`; the other bytes are as they were.
pub record Puts (before : List ℕ) (at : ℕ) (new after : List ℕ) (next : ℕ) : Type 0 where
  pub bytes_are : after ≡ over before at new
  pub end : next ≡ at + length new
