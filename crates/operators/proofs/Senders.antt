-- The step with operators' tickets or with anyone's: accepted, it is the register's; its number is 17 or the register's. Assumes
-- nothing.
use Prim.Native.Nat.{ℕ}
use mathlib.Core.Path.{◌≡◌, refl, sym, ap, ◌∙◌}
use mathlib.Core.Bool.{Bool, true, false}
use mathlib.Core.Logic.{◌⊎◌, inl, inr}
use mathlib.Core.List.{List}
use native.Mathlib.Omega.{arith}
use Rattle.rdfs.specs.Numbers.{Numbers}
use Rattle.rdfs.specs.Register.{step}
use Rattle.rdfs.specs.Operators.{barred, step_as}
use Rattle.rdfs.proofs.Lists.Tests.{tests_self, tests_decides}
use Rattle.rdfs.proofs.Operators.OperatorSteps.{operator_barred, operator_plain}

module _ (N : Numbers) (w bytes : List ℕ) where
  pub as_accepted : (operator : Bool) → (step_as operator N w bytes).number ≡ 0 → step_as operator N w bytes ≡ step N w bytes
  as_accepted false e = refl
  as_accepted true e = operator_plain N w bytes (λ b. omega (arith, sym (ap (λ a. a.number) (operator_barred N w bytes b)) ∙ e))

  pub as_number : (operator : Bool) → ((step_as operator N w bytes).number ≡ 17)
      ⊎ ((step_as operator N w bytes).number ≡ (step N w bytes).number)
  as_number false = inr refl
  as_number true = elim (tests_decides (tests_self (barred N w bytes))) [
    | yes b ↦ inl (ap (λ a. a.number) (operator_barred N w bytes b))
    | no n ↦ inr (ap (λ a. a.number) (operator_plain N w bytes n))
  ]
