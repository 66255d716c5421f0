-- A refusal's number is not 0. Assumes nothing.
use mathlib.Core.Path.{◌≡◌}
use native.Mathlib.Omega.{arith}
use Rattle.table.specs.Refused.{number}
use Rattle.table.specs.declared.refusals.Refusal.{Refusal}
use Rattle.table.specs.declared.refusals.Refusal.TheVariants.{
  BadSize,
  BadLayout,
  Inconsistent,
  BadLength,
  BadOperation,
  BadKind,
  BadIds,
  Guarded,
  UnknownProperty,
  Clashing,
  TooMany,
  Malformed,
  ShortOutput,
  FewAnswers,
  OutsideProfile,
  UnknownClass,
  NotForOperators,
  OutOfDate,
}

pub number_some : (r : Refusal) → number r ≡ 0 → ⊥
number_some BadSize e = omega (arith, e)
number_some BadLayout e = omega (arith, e)
number_some Inconsistent e = omega (arith, e)
number_some BadLength e = omega (arith, e)
number_some BadOperation e = omega (arith, e)
number_some BadKind e = omega (arith, e)
number_some BadIds e = omega (arith, e)
number_some Guarded e = omega (arith, e)
number_some UnknownProperty e = omega (arith, e)
number_some Clashing e = omega (arith, e)
number_some TooMany e = omega (arith, e)
number_some Malformed e = omega (arith, e)
number_some ShortOutput e = omega (arith, e)
number_some FewAnswers e = omega (arith, e)
number_some OutsideProfile e = omega (arith, e)
number_some UnknownClass e = omega (arith, e)
number_some NotForOperators e = omega (arith, e)
number_some OutOfDate e = omega (arith, e)
