-- The place of a broken rule that a call tells with refusal 3.
use Rattle.std.specs.Prelude.{ℕ, suc, ◌≡◌}
use Rattle.rdfs.specs.Facts.{Graph}
use Rattle.consistency.specs.Order.{rules_in_order, MetFirst}

-- The place, counted from 1 in the paper's order, of the first rule that a graph breaks, if the answer is 3;
-- else 0.
pub data PlaceTold (answer : ℕ) (G : Graph) : ℕ → Type 0 where
  none : (answer ≡ 3 → ⊥) → PlaceTold answer G 0
  broken : {met : ℕ} → answer ≡ 3 → MetFirst G rules_in_order met → PlaceTold answer G (suc met)
