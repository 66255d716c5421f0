-- No refusal has the number of none, and only one has 2. Assumes nothing.
use Prim.Native.Nat.{◌<◌}
use mathlib.Core.Path.{◌≡◌, refl}
use native.Mathlib.Omega.{arith}
use lib.Dec.{lit<}
use Rattle.table.specs.Refused.{number}
use Rattle.table.specs.declared.refusals.Refusal.{Refusal}
use Rattle.table.specs.declared.refusals.Refusal.TheVariants.{
  BadSize,
  BadLayout,
  Inconsistent,
  BadLength,
  BadOperation,
  BadKind,
  BadIds,
  Guarded,
  UnknownProperty,
  Clashing,
  TooMany,
  Malformed,
  ShortOutput,
  FewAnswers,
  OutsideProfile,
  UnknownClass,
  NotForOperators,
  OutOfDate,
}

pub number_some : (refusal : Refusal) → 0 < number refusal
number_some BadSize = lit< tt
number_some BadLayout = lit< tt
number_some Inconsistent = lit< tt
number_some BadLength = lit< tt
number_some BadOperation = lit< tt
number_some BadKind = lit< tt
number_some BadIds = lit< tt
number_some Guarded = lit< tt
number_some UnknownProperty = lit< tt
number_some Clashing = lit< tt
number_some TooMany = lit< tt
number_some Malformed = lit< tt
number_some ShortOutput = lit< tt
number_some FewAnswers = lit< tt
number_some OutsideProfile = lit< tt
number_some UnknownClass = lit< tt
number_some NotForOperators = lit< tt
number_some OutOfDate = lit< tt

pub number_layout : (refusal : Refusal) → number refusal ≡ 2 → refusal ≡ BadLayout
number_layout BadSize h = absurd (omega (arith, h))
number_layout BadLayout h = refl
number_layout Inconsistent h = absurd (omega (arith, h))
number_layout BadLength h = absurd (omega (arith, h))
number_layout BadOperation h = absurd (omega (arith, h))
number_layout BadKind h = absurd (omega (arith, h))
number_layout BadIds h = absurd (omega (arith, h))
number_layout Guarded h = absurd (omega (arith, h))
number_layout UnknownProperty h = absurd (omega (arith, h))
number_layout Clashing h = absurd (omega (arith, h))
number_layout TooMany h = absurd (omega (arith, h))
number_layout Malformed h = absurd (omega (arith, h))
number_layout ShortOutput h = absurd (omega (arith, h))
number_layout FewAnswers h = absurd (omega (arith, h))
number_layout OutsideProfile h = absurd (omega (arith, h))
number_layout UnknownClass h = absurd (omega (arith, h))
number_layout NotForOperators h = absurd (omega (arith, h))
number_layout OutOfDate h = absurd (omega (arith, h))
