-- The values one after another, with the place where those of the same subject and object start. Assumes nothing.
use Prim.Native.Nat.{ℕ, ◌+◌, ◌-◌, ◌≤◌, ◌<◌}
use mathlib.Core.Path.{◌≡◌, subst}
use mathlib.Core.List.{List}
use native.Mathlib.Omega.{arith}
use Rattle.rdfs.specs.Rules.{Meets, r27}
use Rattle.table.specs.Parts.{first_of, second_of, third_of, word_of}
use Rattle.spans.specs.Spans.{at, FactWords, Before}
use Rattle.spans.specs.Passes.{group_of, GroupStart}
use Rattle.spans.specs.Graphs.{graph_of, Each, Inherited}
use Rattle.spans.proofs.Passed.{Passed, passed_more, each_fact, fact_each}

-- The values before place i are inherited; g is the place of the first value, or where the group of the word before i starts.
pub record Inheriting (t : List ℕ) (end i g : ℕ) : Type 0 where
  pub passed : Passed t 10 (Inherited t) end i
  pub within : g ≤ i
  pub first : g ≡ i → Before t i (word_of 10 0 0 0)
  pub group : g < i → GroupStart t (i - 1) g

module _ {t : List ℕ} where
  pub inheriting_none : (end i : ℕ) → Passed t 10 (Inherited t) end i → Before t i (word_of 10 0 0 0) → Inheriting t end i i
  inheriting_none end i P b = record { passed = P; within = omega arith; first = λ _. b; group = λ h. absurd (omega arith) }

  module _ {end i g : ℕ} (D : Inheriting t end i g) (h : i < end) where
    -- What the place of the group needs where the first value stands.
    pub inheriting_first : g ≡ i → Before t i (group_of (at t i))
    inheriting_first e k b = omega (arith, D.first e k b, D.passed.left i (omega arith) h)

    pub inheriting_more : (next : ℕ) → GroupStart t i next → Inherited t (first_of (at t i)) (second_of (at t i)) (third_of (at t i))
        → Inheriting t end (i + 1) next
    inheriting_more next G q = record {
      passed = passed_more 10 (Inherited t) i end D.passed h q;
      within = omega (arith, G.within);
      first = λ e. absurd (omega (arith, G.within));
      group = λ _. subst (λ m. GroupStart t m next) (omega arith) G;
    }

pub each_inherits : (t : List ℕ) → Each t 10 (Inherited t) → Meets (graph_of t) r27
each_inherits t E = λ x y z w s p. each_fact t 10 (Inherited t) E x y z p w s

pub inherits_each : {t : List ℕ} → FactWords t → Meets (graph_of t) r27 → Each t 10 (Inherited t)
inherits_each {t} F M = fact_each F 10 (Inherited t) (λ a b c p w s. M a b c w s p)
