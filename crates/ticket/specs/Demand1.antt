-- Demand 1 of the single call: whatever the bytes and the table, the first refusal whose condition holds, and
-- a refusal moves nothing.
use Rattle.std.specs.Prelude.{ℕ, ◌≡◌, Bool, List, ◌++◌}
use Rattle.rdfs.specs.Numbers.{product}
use Rattle.rdfs.specs.Facts.{Fact}
use Rattle.rdfs.specs.Words.{facts}
use Rattle.rdfs.specs.Tickets.{decoded}
use Rattle.rdfs.specs.Refusals.{First, outcome, table_tests, ticket_tests}
use Rattle.table.specs.Refused.{answer_of}
use Rattle.ticket.specs.Answered.{Outcome, added_by, removed_by}

-- The refusals in a ticket's order, each with its condition on the words of a table and a ticket's bytes.
abbrev pub conditions : List ℕ → List ℕ → List (ℕ × Bool)
conditions words bytes =
    let K : List Fact = facts product words in
    let new : List Fact = outcome product.top K (decoded bytes) in
    table_tests product words ++ ticket_tests product words K new bytes

-- What the call answers on these words and bytes, and the words that it leaves.
pub record Demand1 (before bytes after : List ℕ) (outcome : Outcome) : Type 0 where
  pub first : First (conditions before bytes) (answer_of outcome)
  pub moves_nothing : (answer_of outcome ≡ 0 → ⊥) → (after ≡ before) × (added_by outcome ≡ 0)
      × (removed_by outcome ≡ 0)
