-- Refusals by their numbers. Assumes nothing.
use Prim.Native.Nat.{ℕ}
use mathlib.Core.Path.{◌≡◌, sym, ap, ◌∙◌}
use mathlib.Core.Bool.{Bool}
use native.Mathlib.Omega.{arith}
use lib.Dec.{eqb}
use borrow.Author.Tests.{ne_eqb}
use Rattle.std.specs.Prelude.{Result, Ok, Err}
use Rattle.std.specs.Result.{is_ok}
use Rattle.table.specs.Refused.{number, answer_of}
use Rattle.table.specs.declared.refusals.Refusal.{Refusal}
use Rattle.table.specs.declared.refusals.Refusal.TheVariants.{
  BadSize,
  BadLayout,
  Inconsistent,
  BadLength,
  BadOperation,
  BadKind,
  BadIds,
  Guarded,
  UnknownProperty,
  Clashing,
  TooMany,
  Malformed,
  ShortOutput,
  FewAnswers,
  OutsideProfile,
  UnknownClass,
  NotForOperators,
  OutOfDate,
}

-- No refusal has the number of none.
pub number_some : (refusal : Refusal) → number refusal ≡ 0 → ⊥
number_some BadSize e = absurd (omega (arith, e))
number_some BadLayout e = absurd (omega (arith, e))
number_some Inconsistent e = absurd (omega (arith, e))
number_some BadLength e = absurd (omega (arith, e))
number_some BadOperation e = absurd (omega (arith, e))
number_some BadKind e = absurd (omega (arith, e))
number_some BadIds e = absurd (omega (arith, e))
number_some Guarded e = absurd (omega (arith, e))
number_some UnknownProperty e = absurd (omega (arith, e))
number_some Clashing e = absurd (omega (arith, e))
number_some TooMany e = absurd (omega (arith, e))
number_some Malformed e = absurd (omega (arith, e))
number_some ShortOutput e = absurd (omega (arith, e))
number_some FewAnswers e = absurd (omega (arith, e))
number_some OutsideProfile e = absurd (omega (arith, e))
number_some UnknownClass e = absurd (omega (arith, e))
number_some NotForOperators e = absurd (omega (arith, e))
number_some OutOfDate e = absurd (omega (arith, e))

-- A call is not refused if its answer is 0.
pub ok_answers : {A : Type 0} (r : Result A Refusal) {n : ℕ} → answer_of r ≡ n → is_ok r ≡ eqb n 0
ok_answers (Ok _) e = ap (λ m. eqb m 0) e
ok_answers (Err refusal) e = sym (ne_eqb (number refusal) 0 (number_some refusal)) ∙ ap (λ m. eqb m 0) e
