-- The visit of a list of rules: the rules before a place are met. How that goes on, how many are met when it stops, and what
-- the rule at the place relies on. All rules in order are consistency. Assumes nothing.
use Prim.Native.Nat.{ℕ, zero, suc, ◌+◌, ◌≤◌, ◌<◌}
use mathlib.Core.Path.{◌≡◌, sym, subst}
use mathlib.Core.Logic.{⊎_elim}
use mathlib.Core.List.{List, [], ◌∷◌}
use native.Mathlib.Nat.{eq-or-lt_of_le}
use native.Mathlib.Omega.{arith}
use lib.Dec.{lit≤}
use lib.ListN.{length}
use Rattle.rdfs.specs.Facts.{Graph}
use Rattle.rdfs.specs.Rules.{Rule, Meets, r4, r5, r6, r7, r8, r9, r10, r11, r12, r13, r14, r15, r16, r17, r18, r19, r20, r21}
use Rattle.rdfs.specs.Rules.{r22, r23, r24, r25, r26, r27, h1, h2, h3, h4, e1, e2}
use Rattle.rdfs.specs.Consistency.{Consistent}
use Rattle.rules.specs.Earlier.{Earlier}
use Rattle.consistency.specs.Printed.{place_of}
use Rattle.consistency.specs.Order.{
  rules_in_order,
  rule_at,
  MetFirst,
  end,
  stop,
  pass,
  indexed_count,
  MetIndexed,
  MeetsAll,
  none,
  also,
}
use Rattle.consistency.proofs.MetLaws.{met_before, all_counted}

-- Each rule before place i is met.
abbrev pub MetBefore : Graph → List Rule → ℕ → Type 0
MetBefore G l i = (j : ℕ) → j < i → Meets G (rule_at l j)

-- A fact of a place and its rule, for each place of a list.
abbrev EachPlace : (ℕ → Rule → Type 0) → List Rule → Type 0
EachPlace P [] = Unit {0}
EachPlace P (r ∷ l) = P 0 r × EachPlace (λ i. P (suc i)) l

each_at : (l : List Rule) (P : ℕ → Rule → Type 0) → EachPlace P l → (i : ℕ) → i < length l → P i (rule_at l i)
each_at [] P e i h = absurd (omega arith)
each_at (r ∷ l) P e zero h = e.0
each_at (r ∷ l) P e (suc i) h = each_at l (λ j. P (suc j)) e.1 i (omega arith)

infixr 30 ◌⨾◌
◌⨾◌ : {A B : Type 0} → A → B → A × B
a ⨾ b = (a, b)

free : {A B : Type 0} → A → B → Unit {0}
free a b = tt

module _ (G : Graph) where
  pub visit_none : (l : List Rule) → MetBefore G l 0
  visit_none l j h = absurd (omega arith)

  pub visit_more : (l : List Rule) (i : ℕ) → MetBefore G l i → Meets G (rule_at l i) → MetBefore G l (i + 1)
  visit_more l i p m j h = ⊎_elim (λ e. subst (λ k. Meets G (rule_at l k)) (sym e) m) (p j) (eq-or-lt_of_le (omega arith))

  -- It stops at the list's end, or at a rule that is broken.
  pub visit_stops : (l : List Rule) (i : ℕ) → i ≤ length l → MetBefore G l i → (i < length l → Meets G (rule_at l i) → ⊥)
      → MetFirst G l i
  visit_stops [] zero h p n = end
  visit_stops [] (suc i) h p n = absurd (omega arith)
  visit_stops (r ∷ l) zero h p n = stop (n (omega arith))
  visit_stops (r ∷ l) (suc i) h p n = pass (p 0 (omega arith)) (visit_stops l i (omega arith) (λ j k. p (suc j) (omega arith))
      (λ k. n (omega arith)))

  pub visit_ends : (l : List Rule) → MetBefore G l (length l) → MetFirst G l (length l)
  visit_ends l p = visit_stops l (length l) (omega arith) p (λ k. absurd (omega arith))

  -- Most rules rely on none before them; rules 16 and 17, which five rely on, stand at places 12 and 13. E2 is not among those
  -- that are tested by the index.
  relied : EachPlace (λ i r. i < indexed_count → MetBefore G rules_in_order i → Earlier G r) rules_in_order
  relied =
      free ⨾ free ⨾ free ⨾ free ⨾ free ⨾ free ⨾ free ⨾
      free ⨾ free ⨾ free ⨾ free ⨾ free ⨾ free ⨾ free ⨾
      free ⨾ free ⨾ free ⨾ free ⨾ (λ h p. p 12 (lit≤ tt)) ⨾ (λ h p. p 13 (lit≤ tt)) ⨾ free ⨾
      (λ h p. p 13 (lit≤ tt)) ⨾ free ⨾ free ⨾ free ⨾ free ⨾ (λ h p. p 13 (lit≤ tt)) ⨾ (λ h p. p 13 (lit≤ tt)) ⨾
      free ⨾ (λ h. absurd (omega arith)) ⨾ tt

  pub visit_earlier : (i : ℕ) → i < indexed_count → MetBefore G rules_in_order i → Earlier G (rule_at rules_in_order i)
  visit_earlier i h p = each_at rules_in_order (λ j r. j < indexed_count → MetBefore G rules_in_order j → Earlier G r) relied i
      (omega arith) h p

  -- The visit of all but E2, and then E2.
  pub indexed_stops : {n : ℕ} → MetIndexed G n → n < indexed_count → MetFirst G rules_in_order n
  indexed_stops {n} m h = visit_stops rules_in_order n (omega (arith, m.within)) m.before (λ k. m.broken h)

  pub indexed_ends : {n : ℕ} → MetIndexed G n → indexed_count ≤ n → Meets G e2 → MetFirst G rules_in_order (indexed_count + 1)
  indexed_ends {n} m h met = visit_ends rules_in_order (visit_more rules_in_order indexed_count
      (λ j k. m.before j (omega (arith, h, k))) met)

  pub indexed_breaks : {n : ℕ} → MetIndexed G n → indexed_count ≤ n → (Meets G e2 → ⊥) → MetFirst G rules_in_order n
  indexed_breaks {n} m h broken = visit_stops rules_in_order n (omega (arith, m.within)) m.before
      (λ k p. let e : n ≡ indexed_count = omega (arith, m.within, h) in
      broken (subst (λ i. Meets G (rule_at rules_in_order i)) e p))

  pub all_consistent : MeetsAll G rules_in_order → Consistent G
  all_consistent m =
      let at : (r : Rule) → place_of r < length rules_in_order → Meets G (rule_at rules_in_order (place_of r)) =
      λ r. met_before (all_counted m) (place_of r) in
      record {
        rule_4 = at r4 (lit≤ tt);
        rule_5 = at r5 (lit≤ tt);
        rule_6 = at r6 (lit≤ tt);
        rule_7 = at r7 (lit≤ tt);
        rule_8 = at r8 (lit≤ tt);
        rule_9 = at r9 (lit≤ tt);
        rule_10 = at r10 (lit≤ tt);
        rule_11 = at r11 (lit≤ tt);
        rule_12 = at r12 (lit≤ tt);
        rule_13 = at r13 (lit≤ tt);
        rule_14 = at r14 (lit≤ tt);
        rule_15 = at r15 (lit≤ tt);
        rule_16 = at r16 (lit≤ tt);
        rule_17 = at r17 (lit≤ tt);
        rule_18 = at r18 (lit≤ tt);
        rule_19 = at r19 (lit≤ tt);
        rule_20 = at r20 (lit≤ tt);
        rule_21 = at r21 (lit≤ tt);
        rule_22 = at r22 (lit≤ tt);
        rule_23 = at r23 (lit≤ tt);
        rule_24 = at r24 (lit≤ tt);
        rule_25 = at r25 (lit≤ tt);
        rule_26 = at r26 (lit≤ tt);
        rule_27 = at r27 (lit≤ tt);
        rule_h1 = at h1 (lit≤ tt);
        rule_h2 = at h2 (lit≤ tt);
        rule_h3 = at h3 (lit≤ tt);
        rule_h4 = at h4 (lit≤ tt);
        rule_e1 = at e1 (lit≤ tt);
        rule_e2 = at e2 (lit≤ tt);
      }

  each_met : Consistent G → (r : Rule) → Meets G r
  each_met c r4 = c.rule_4
  each_met c r5 = c.rule_5
  each_met c r6 = c.rule_6
  each_met c r7 = c.rule_7
  each_met c r8 = c.rule_8
  each_met c r9 = c.rule_9
  each_met c r10 = c.rule_10
  each_met c r11 = c.rule_11
  each_met c r12 = c.rule_12
  each_met c r13 = c.rule_13
  each_met c r14 = c.rule_14
  each_met c r15 = c.rule_15
  each_met c r16 = c.rule_16
  each_met c r17 = c.rule_17
  each_met c r18 = c.rule_18
  each_met c r19 = c.rule_19
  each_met c r20 = c.rule_20
  each_met c r21 = c.rule_21
  each_met c r22 = c.rule_22
  each_met c r23 = c.rule_23
  each_met c r24 = c.rule_24
  each_met c r25 = c.rule_25
  each_met c r26 = c.rule_26
  each_met c r27 = c.rule_27
  each_met c h1 = c.rule_h1
  each_met c h2 = c.rule_h2
  each_met c h3 = c.rule_h3
  each_met c h4 = c.rule_h4
  each_met c e1 = c.rule_e1
  each_met c e2 = c.rule_e2

  listed_met : ((r : Rule) → Meets G r) → (l : List Rule) → MeetsAll G l
  listed_met m [] = none
  listed_met m (r ∷ l) = also (m r) (listed_met m l)

  pub consistent_all : Consistent G → MeetsAll G rules_in_order
  consistent_all c = listed_met (each_met c) rules_in_order
