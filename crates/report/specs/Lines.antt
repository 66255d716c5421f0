-- What program one prints for a chunk of bytes: a line for each ticket, run in turn.
use Rattle.std.specs.Prelude.{ℕ, ◌≤◌, ◌≡◌, List, [], ◌∷◌, ◌++◌, length, take}
use Rattle.rdfs.specs.Numbers.{product}
use Rattle.rdfs.specs.Register.{step, run}
use Rattle.text.specs.Text.{Number}

-- Three numbers with one blank between, then a newline.
abbrev pub Line : ℕ → ℕ → ℕ → List ℕ → Type 0
Line a b c text = (first second third : List ℕ) × Number a 32 first × Number b 32 second × Number c 10 third
    × (text ≡ (first ++ second) ++ third)

-- The lines of tickets run in turn on a table: answer, added, removed.
abbrev pub Lines : List ℕ → List (List ℕ) → List ℕ → Type 0
Lines table [] text = text ≡ []
Lines table (ticket ∷ l) text =
    (first rest : List ℕ)
    × Line (step product table ticket).number (step product table ticket).added
    (step product table ticket).removed first
    × Lines (step product table ticket).table l rest × (text ≡ first ++ rest)

-- The lines of the tickets stand at the start of a buffer, up to r, and the words left are the register's.
pub record Printed (table : List ℕ) (tickets : List (List ℕ)) (r : ℕ) (left out : List ℕ) : Type 0 where
  pub words : left ≡ (run product table tickets).table
  pub lines : Lines table tickets (take r out)
  pub within : r ≤ length out
