-- The kinds that the searches in spans are given, and the tests by them.
use Rattle.std.specs.Prelude.{ℕ, ◌≤◌, ◌≡◌}
use Rattle.rdfs.specs.Numbers.{kind_count, arity}

-- The kinds are numbered from 1 on.
abbrev pub Kind : ℕ → Type 0
Kind k = (1 ≤ k) × (k ≤ kind_count)

-- A kind with two ids.
pub record TwoIds (k : ℕ) : Type 0 where
  pub kind : Kind k
  pub ids : arity k ≡ 2
