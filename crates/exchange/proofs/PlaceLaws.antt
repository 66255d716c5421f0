-- The place of a broken rule: it is one, within the rules, and names the first that is broken. Assumes nothing.
use Prim.Native.Nat.{ℕ, suc, ◌-◌, ◌≤◌, ◌<◌}
use mathlib.Core.Path.{◌≡◌, refl, ap, subst}
use mathlib.Core.Bool.{Bool, true, false, not}
use mathlib.Core.List.{List}
use native.Mathlib.Omega.{arith}
use lib.Dec.{T}
use lib.ListN.{length}
use Rattle.rdfs.specs.Facts.{Fact, Graph, graph}
use Rattle.rdfs.specs.Clashes.{is_consistent}
use Rattle.rdfs.specs.Refusals.{or_else}
use Rattle.consistency.specs.Order.{rules_in_order, rule_at, MetFirst, FirstBroken}
use Rattle.consistency.proofs.MetLaws.{met_within, met_one, met_broken}
use Rattle.consistency.proofs.Refused.{inconsistent_broken}
use Rattle.exchange.specs.PlaceTold.{PlaceTold, none, broken}

-- A place counted from 1 is a rule's, and the rule is the first that a graph breaks.
abbrev pub NamesFirst : Graph → ℕ → Type 0
NamesFirst G p = (1 ≤ p) × (p ≤ length rules_in_order) × FirstBroken G (rule_at rules_in_order (p - 1)) rules_in_order

module _ {answer : ℕ} {G : Graph} where
  pub place_few : {p : ℕ} → PlaceTold answer G p → p ≤ suc (length rules_in_order)
  place_few (none h) = omega arith
  place_few (broken e m) = omega (arith, met_within m)

  pub place_one : {p q : ℕ} → PlaceTold answer G p → PlaceTold answer G q → p ≡ q
  place_one (none h) (none k) = refl
  place_one (none h) (broken e m) = absurd (h e)
  place_one (broken e m) (none h) = absurd (h e)
  place_one (broken e m) (broken d k) = ap suc (met_one m k)

  pub place_none : {p : ℕ} → PlaceTold answer G p → (answer ≡ 3 → ⊥) → p ≡ 0
  place_none (none h) n = refl
  place_none (broken e m) n = absurd (n e)

  pub place_counted : {p : ℕ} → PlaceTold answer G p → answer ≡ 3 → (n : ℕ) × (p ≡ suc n) × MetFirst G rules_in_order n
  place_counted (none h) e = absurd (h e)
  place_counted (broken {met = n} q m) e = (n, refl, m)

-- Refusal 3 is given only if the test of consistency fails.
pub third_breaks : (consistent : Bool) → or_else (not consistent) 3 0 ≡ 3 → T consistent → ⊥
third_breaks true q t = omega (arith, q)
third_breaks false q t = t

pub zero_meets : (consistent : Bool) → or_else (not consistent) 3 0 ≡ 0 → T consistent
zero_meets true q = tt
zero_meets false q = absurd (omega (arith, q))

pub place_names : {answer : ℕ} (K : List Fact) {p : ℕ} → PlaceTold answer (graph K) p → answer ≡ 3 → (T (is_consistent K) → ⊥)
    → NamesFirst (graph K) p
place_names K (none h) e not = absurd (h e)
place_names K (broken {met = n} q m) e not =
    let few : n < length rules_in_order = inconsistent_broken K m not in
    let before : n ≡ suc n - 1 = omega arith in (
      omega arith,
      omega (arith, few),
      subst (λ i. FirstBroken (graph K) (rule_at rules_in_order i) rules_in_order) before (met_broken m few),
    )
