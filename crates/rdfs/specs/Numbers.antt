-- The numbers of a table and a ticket, in one place; definitions and theorems take the first three as
-- parameters. In formulas, as in document 01, id 0 is Resource and id 1 the mark Literal.
use Rattle.std.specs.Prelude.{ℕ, ◌≤◌, ◌<◌, List, [], ◌∷◌, length, get_or}

-- The highest id; the base at which a word's kind and ids are digits; the most words of a table.
pub record Numbers : Type 0 where
  pub top : ℕ
  pub base : ℕ
  pub most : ℕ

-- The mark Literal is an id, and every id is a digit.
pub record Sound (N : Numbers) : Type 0 where
  pub mark : 1 ≤ N.top
  pub digit : N.top < N.base

-- The product's values.
abbrev pub product : Numbers
product = record { top = 255; base = 256; most = 2048 }

-- The bytes of a ticket: operation, kind, a, b, c.
abbrev pub record_length : ℕ
record_length = 5

-- How many ids a fact of each kind has, from kind 1 on; how many kinds there are.
abbrev pub arities : List ℕ
arities = 1 ∷ 1 ∷ 1 ∷ 1 ∷ 2 ∷ 2 ∷ 2 ∷ 2 ∷ 2 ∷ 3 ∷ 1 ∷ []

abbrev pub kind_count : ℕ
kind_count = length arities

-- How many ids a fact of a kind has; 0 if the number is no kind.
abbrev pub arity : ℕ → ℕ
arity k = get_or (0 ∷ arities) k 0

-- The kinds that a ticket may have.
abbrev pub ticket_kinds : List ℕ
ticket_kinds = 1 ∷ 2 ∷ 3 ∷ 4 ∷ 5 ∷ 6 ∷ 9 ∷ 10 ∷ 11 ∷ []

-- The kinds that an operator's ticket may have: Ind, Lit, CI, PI.
abbrev pub operator_kinds : List ℕ
operator_kinds = 3 ∷ 4 ∷ 9 ∷ 10 ∷ []
