-- An exact answer: of a test of two numbers, of a test that failed, and carried to a statement that holds together with its own.
-- Assumes nothing.
use Prim.Native.Nat.{ℕ}
use mathlib.Core.Path.{◌≡◌, sym, subst, ◌∙◌}
use mathlib.Core.Bool.{Bool, true, false}
use mathlib.Core.Logic.{⊎_elim}
use lib.Dec.{T, eqb}
use Rattle.std.proofs.lemmas.Bool.Decides.{eqb_tells}
use Rattle.table.specs.Answers.{Decides}

pub decides_as : {P Q : Type 0} (s : Bool) → Decides s P → (P → Q) → (Q → P) → Decides s Q
decides_as true d f g = f d
decides_as false d f g = λ q. d (g q)

pub decides_not : (P : Type 0) (s : Bool) → s ≡ false → (P → ⊥) → Decides s P
decides_not P s e n = subst (λ t. Decides t P) (sym e) n

pub decides_eq : (a b : ℕ) → Decides (eqb a b) (a ≡ b)
decides_eq a b = ⊎_elim (λ p. subst (λ t. Decides t (a ≡ b)) (sym p.0) p.1) (λ p. decides_not (a ≡ b) (eqb a b) p.0 p.1)
    (eqb_tells a b)

-- No test passes and fails.
pub not_both : {b : Bool} → b ≡ true → b ≡ false → ⊥
not_both e f = subst T (sym e ∙ f) tt
