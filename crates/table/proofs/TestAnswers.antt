-- Answers of tests: as a statement, as a Bool of the definitions, of two tests. Assumes nothing.
use mathlib.Core.Path.{◌≡◌, refl, sym, subst}
use mathlib.Core.Bool.{Bool, true, false}
use lib.Dec.{T}
use Rattle.rdfs.proofs.Lists.Tests.{Tests}
use Rattle.table.specs.Answers.{Decides}

pub is_true : {b : Bool} → T b → b ≡ true
is_true {b = true} t = refl
is_true {b = false} t = absurd t

pub is_false : {b : Bool} → (T b → ⊥) → b ≡ false
is_false {b = true} n = absurd (n tt)
is_false {b = false} n = refl

module _ {P : Type 0} where
  pub decides_true : (s : Bool) → Decides s P → s ≡ true → P
  decides_true true d e = d
  decides_true false d e = absurd (subst T (sym e) tt)

  pub decides_false : (s : Bool) → Decides s P → s ≡ false → P → ⊥
  decides_false true d e = absurd (subst T e tt)
  decides_false false d e = d

  -- An exact answer is the definitions' test.
  pub decides_tests : (s t : Bool) → Decides s P → Tests t P → s ≡ t
  decides_tests true true d e = refl
  decides_tests true false d e = absurd (e.complete d)
  decides_tests false true d e = absurd (d (e.sound tt))
  decides_tests false false d e = refl

-- The first of two statements holds: the answer for the second is the answer for both.
pub decides_second : {P Q : Type 0} (s t : Bool) → Tests t (P × Q) → P → Decides s Q → s ≡ t
decides_second true t e p d = decides_tests true t (p, d) e
decides_second false t e p d = decides_tests false t (λ h. d h.1) e
