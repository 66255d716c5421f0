-- The place of a rule, which its name in print gives, is where it stands in the order. Assumes nothing.
use Prim.Native.Nat.{ℕ, zero, suc, ◌+◌, ◌<◌}
use mathlib.Core.Path.{◌≡◌, refl, sym, ap, ◌∙◌}
use mathlib.Core.List.{map}
use native.Mathlib.Omega.{arith}
use lib.ListN.{length, get_or, get_or-map}
use Rattle.rdfs.specs.Rules.{r4}
use Rattle.consistency.specs.Printed.{numbers_from, place_of}
use Rattle.consistency.specs.Order.{rules_in_order, rule_at}

numbers_at : (n k i d : ℕ) → i < k → get_or (numbers_from n k) i d ≡ n + i
numbers_at n zero i d h = absurd (omega arith)
numbers_at n (suc k) zero d h = omega arith
numbers_at n (suc k) (suc i) d h = numbers_at (suc n) k i d (omega arith) ∙ omega arith

places_in_order : map place_of rules_in_order ≡ numbers_from 0 (length rules_in_order)
places_in_order = refl

-- The rule at a place has that place.
pub place_at : (i : ℕ) → i < length rules_in_order → place_of (rule_at rules_in_order i) ≡ i
place_at i h =
    sym (get_or-map place_of rules_in_order i r4)
    ∙ (ap (λ l. get_or l i 0) places_in_order ∙ (numbers_at 0 (length rules_in_order) i 0 h ∙ omega arith))
