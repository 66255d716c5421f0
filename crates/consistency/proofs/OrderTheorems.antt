-- What is proved of the visit and of the check, from their contracts alone: the order is the printed one, the visit gets past
-- each place exactly if the rule there and all before it are met, and a table that is laid out is answered 0 exactly if it gets
-- past the last, else 3. Assumes nothing.
use Prim.Native.Nat.{ℕ, ◌-◌, ◌<◌}
use mathlib.Core.Path.{◌≡◌, refl, sym, ap, subst, ◌∙◌}
use mathlib.Core.List.{List, map}
use Rattle.std.specs.Prelude.{Option, None, Some}
use native.Mathlib.Omega.{arith}
use native.Mathlib.Decide.{dec_lt}
use lib.ListN.{length}
use Rattle.rdfs.specs.Numbers.{product}
use Rattle.rdfs.specs.Facts.{Graph, graph}
use Rattle.rdfs.specs.Refusals.{layout_refusal, table_refusal}
use Rattle.table.specs.Counted.{facts_of}
use Rattle.rules.specs.declared.Rule as code
use Rattle.rules.specs.RuleOf.{rule_of}
use Rattle.consistency.specs.Printed.{name_of, names_in_order, place_of}
use Rattle.consistency.specs.Order.{rules_in_order, MetFirst, Answers, MetThrough, Past}
use Rattle.consistency.proofs.MetLaws.{met_before, met_stops, all_counted, broken_counted}
use Rattle.consistency.proofs.Places.{place_at}
use Rattle.consistency.proofs.Refused.{past_broken, past_met}

-- The rules are visited from 4 to 27 in printed order, then H1 to H4, then the two of Ask 3.
pub order_as_printed : map name_of rules_in_order ≡ names_in_order
order_as_printed = refl

abbrev last : ℕ
last = length rules_in_order - 1

module _ (G : Graph) where
  -- `count_met` answers n: it gets past each place before n.
  pub count_gets_past : (n : ℕ) → MetFirst G rules_in_order n → (i : ℕ) → i < length rules_in_order
      → (i < n → MetThrough G i) × (MetThrough G i → i < n)
  count_gets_past n m i h = (
    λ k j q. met_before m j (omega (arith, k, q)),
    λ t. elim (dec_lt i n) [
      | yes k ↦ k
      | no q ↦ absurd (met_stops m (omega (arith, q, h)) (t n (omega (arith, q))))
    ],
  )

  -- As many rules are met as stand before the one that is named.
  named : (q : code.Rule) → Answers G rules_in_order (Some q)
      → (place_of (rule_of q) < length rules_in_order) × MetFirst G rules_in_order (place_of (rule_of q))
  named q a =
      let b = broken_counted a in
      subst (λ n. (n < length rules_in_order) × MetFirst G rules_in_order n) (sym (place_at b.0 b.2) ∙ ap place_of b.1)
      (b.2, b.3)

  -- `first_broken` answers v: the visit gets past a place exactly if the rule there and all before it are met.
  pub gets_past : (v : Option code.Rule) → Answers G rules_in_order v → (i : ℕ) → i < length rules_in_order
      → (Past v i → MetThrough G i) × (MetThrough G i → Past v i)
  gets_past None a i h = (λ u. (count_gets_past _ (all_counted a) i h).0 h, λ t. tt)
  gets_past (Some q) a i h = count_gets_past _ (named q a).1 i h

-- `check` answers a and `first_broken` v, of a table that is refused with neither 1 nor 2: a is 0 exactly if the visit gets past
-- the last place, else 3.
module _ (table : List ℕ) (laid : layout_refusal product table 0 ≡ 0) (a : ℕ) (e : a ≡ table_refusal product table 0) where
  pub check_past_the_last : (v : Option code.Rule) → Answers (graph (facts_of table)) rules_in_order v
      → (a ≡ 0 → Past v last) × (Past v last → a ≡ 0) × ((Past v last → ⊥) → a ≡ 3)
  check_past_the_last None w = (
    λ z. tt,
    λ u. e ∙ sym (past_met table 0 (sym laid) refl (all_counted w) (omega arith)),
    λ n. absurd (n tt),
  )
  check_past_the_last (Some q) w =
      let at = named (graph (facts_of table)) q w in
      let third : a ≡ 3 = e ∙ sym (past_broken table 0 (sym laid) refl at.1 at.0) in (
        λ z. absurd (omega (arith, z, third)),
        λ k. absurd (omega (arith, k, at.0)),
        λ n. third,
      )
