use native.Mathlib.Omega.{arith}
use Rattle.terms.proofs.DigitsReading.{digits_none, digits_zero, number_first, number_more, number_high, number_ends}
use Rattle.terms.proofs.read.read_digits.Goals as goal

pub returns-in_err-first : goal.returns-in_err-first
returns-in_err-first c =
    rw c.from_residual.ensures (record { answer = digits_none c.args.text.now c.in_err-first.ensures.answer })

pub returns-then-first-eq0 : goal.returns-then-first-eq0
returns-then-first-eq0 c =
    record { answer = digits_zero c.args.text.now c.in_ok-first.ensures.answer c.if-first-eq0.true }

pub loop-digit-init : goal.loop-digit-init
loop-digit-init c = number_first c.in_ok-first.ensures.answer (omega arith)

pub returns-then-value-gt-TOP : goal.returns-then-value-gt-TOP
returns-then-value-gt-TOP c =
    record { answer = number_high c.loop-digit.invariant c.in-Some.ensures.answer (omega arith) }

pub loop-digit-preserved : goal.loop-digit-preserved
loop-digit-preserved c = number_more c.loop-digit.invariant c.in-Some.ensures.answer (omega arith)

pub returns : goal.returns
returns c = record { answer = number_ends c.loop-digit.invariant c.in_default.ensures.answer }
