-- What a walk over a table's words finds of its layout.
use Rattle.std.specs.Prelude.{ℕ, ◌≤◌, ◌≡◌, Bool, List, eqb, length, drop}
use Rattle.rdfs.specs.Numbers.{product}
use Rattle.rdfs.specs.Lists.{all}
use Rattle.rdfs.specs.Words.{laid_out}

abbrev pub zeros : List ℕ → Bool
zeros words = all (λ x. eqb x 0) words

-- The words before a place are facts, ascending: the table is laid out if the others are zeros, and only
-- then.
pub record Rising (table : List ℕ) (place : ℕ) : Type 0 where
  pub within : place ≤ length table
  pub rest : laid_out product 1 table ≡ zeros (drop place table)
