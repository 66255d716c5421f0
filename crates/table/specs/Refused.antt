-- A refusal's number, and what a call answers.
use Rattle.std.specs.Prelude.{ℕ, Result, Ok, Err}
use Rattle.table.specs.declared.refusals.Refusal.{Refusal}
use Rattle.table.specs.declared.refusals.Refusal.TheVariants.{
  BadSize,
  BadLayout,
  Inconsistent,
  BadLength,
  BadOperation,
  BadKind,
  BadIds,
  Guarded,
  UnknownProperty,
  Clashing,
  TooMany,
  Malformed,
  ShortOutput,
  FewAnswers,
  OutsideProfile,
  UnknownClass,
  NotForOperators,
  OutOfDate,
}

abbrev pub number : Refusal → ℕ
number BadSize = 1
number BadLayout = 2
number Inconsistent = 3
number BadLength = 4
number BadOperation = 5
number BadKind = 6
number BadIds = 7
number Guarded = 8
number UnknownProperty = 9
number Clashing = 10
number TooMany = 11
number Malformed = 12
number ShortOutput = 13
number FewAnswers = 14
number OutsideProfile = 15
number UnknownClass = 16
number NotForOperators = 17
number OutOfDate = 18

-- What a call answers: 0, or its refusal's number.
abbrev pub answer_of : {A : Type 0} → Result A Refusal → ℕ
answer_of (Ok _) = 0
answer_of (Err refusal) = number refusal
