-- A test of each word that turns once: what a search by halving finds.
use Rattle.std.specs.Prelude.{ℕ, ◌≤◌, ◌<◌, ◌≡◌, ◌⊎◌, List, length, get_or}

-- The answer r at place k: 1 if k is before the number, else 0.
abbrev pub Turns : ℕ → ℕ → ℕ → Type 0
Turns number k r = ((r ≡ 1) × (k < number)) ⊎ ((r ≡ 0) × (number ≤ k))

-- Each answer that a word may get is that of its place.
abbrev pub TurnsAt : (ℕ → ℕ → Type 0) → List ℕ → ℕ → Type 0
TurnsAt Answers words number = (k r : ℕ) → k < length words → Answers (get_or words k 0) r → Turns number k r
