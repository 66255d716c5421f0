-- What the answer of a test tells where it is branched on. Assumes nothing.
use Prim.Native.Nat.{ℕ}
use mathlib.Core.Path.{◌≡◌, refl}
use mathlib.Core.Bool.{Bool, true, false, not, beq}
use native.Mathlib.Omega.{arith}
use lib.Dec.{eqb}
use borrow.Author.Tests.{eqb-true, eqb-false}
use Rattle.table.specs.Answers.{Decides}

pub true_false : true ≡ false → ⊥
true_false e = let z : ◌≡◌ {A = ℕ} 0 1 = cc in omega arith

-- A branch on the negation of an answer.
pub decided_met : (b : Bool) (P : Type 0) → Decides b P → not b ≡ false → P
decided_met true P d e = d
decided_met false P d e = absurd (true_false e)

pub decided_broken : (b : Bool) (P : Type 0) → Decides b P → not b ≡ true → P → ⊥
decided_broken false P d e = d
decided_broken true P d e = absurd (true_false (cc))

pub decides_as : (b : Bool) (P Q : Type 0) → (P → Q) → (Q → P) → Decides b P → Decides b Q
decides_as true P Q f g d = f d
decides_as false P Q f g d = λ q. d (g q)

-- The first of two tests is not met, and so not both; or it is met, and so one of them.
pub decides_first : (b : Bool) (P Q : Type 0) → (Q → P) → b ≡ false → Decides b P → Decides b Q
decides_first true P Q f e d = absurd (true_false e)
decides_first false P Q f e d = λ q. d (f q)

pub decides_either : (b : Bool) (P Q : Type 0) → (P → Q) → b ≡ true → Decides b P → Decides b Q
decides_either true P Q f e d = f d
decides_either false P Q f e d = absurd (true_false (cc))

-- Comparisons of numbers.
pub decides_eqb : (a b : ℕ) → Decides (eqb a b) (a ≡ b)
decides_eqb a b = go (eqb a b) (eqb-true a b) (eqb-false a b)
  where
    go : (s : Bool) → (s ≡ true → a ≡ b) → (s ≡ false → a ≡ b → ⊥) → Decides s (a ≡ b)
    go true f g = f refl
    go false f g = g refl

-- Two tests agree exactly if what they decide is equivalent.
pub decides_like : (s r : Bool) (P Q : Type 0) → Decides s P → Decides r Q → Decides (beq s r) ((P → Q) × (Q → P))
decides_like true true P Q d e = (λ _. e, λ _. d)
decides_like true false P Q d e = λ h. e (h.0 d)
decides_like false true P Q d e = λ h. d (h.1 e)
decides_like false false P Q d e = (λ p. absurd (d p), λ q. absurd (e q))

pub decides_not : (b : Bool) (P : Type 0) → Decides b P → Decides (not b) (P → ⊥)
decides_not true P d = λ n. n d
decides_not false P d = d
