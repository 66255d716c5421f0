-- A table with the number of its facts, and what a lookup of a fact in it is given.
use Rattle.std.specs.Prelude.{ℕ, ◌≤◌, ◌≡◌, List, T, length}
use Rattle.rdfs.specs.Numbers.{product}
use Rattle.rdfs.specs.Facts.{Fact}
use Rattle.rdfs.specs.Words.{laid_out, filled, facts}
use Rattle.table.specs.Parts.{Shaped}

-- A table that is laid out, and the number of its facts.
pub record Counted (table : List ℕ) (count : ℕ) : Type 0 where
  pub laid : T (laid_out product 1 table)
  pub size : count ≡ length (filled table)

-- An id up to the highest.
abbrev pub Id : ℕ → Type 0
Id a = a ≤ product.top

-- The facts of a table.
abbrev pub facts_of : List ℕ → List Fact
facts_of table = facts product table

-- Facts, ascending, and nothing after them: a table cut to its facts.
abbrev pub Full : List ℕ → Type 0
Full facts = Counted facts (length facts)

-- A kind with ids that make a fact.
abbrev pub Formed : ℕ → ℕ → ℕ → ℕ → Type 0
Formed k a b c = Shaped k b c × Id a × Id b × Id c

-- A table with the number of its facts, and a kind with ids that make a fact.
pub record Lookup (table : List ℕ) (count k a b c : ℕ) : Type 0 where
  pub counted : Counted table count
  pub shaped : Shaped k b c
  pub first : Id a
  pub second : Id b
  pub third : Id c
