-- `apply_as`: refused with 17, or the plain ticket. Assumes nothing.
use mathlib.Core.Path.{◌≡◌, sym, subst, ◌∙◌}
use mathlib.Core.Bool.{true, false}
use mathlib.Core.List.{List}
use Prim.Native.Nat.{ℕ}
use lib.Dec.{T}
use Rattle.table.specs.declared.refusals.Refusal.TheVariants.{NotForOperators}
use Rattle.ticket.specs.Answered.{Answered}
use Rattle.ticket.proofs.CallAnswers.{answered_refused}
use Rattle.operators.specs.Operator.{is_barred}
use Rattle.operators.proofs.Barred.{barred_refused, free_plain}
use Rattle.operators.proofs.apply_as.Goals as goal
use Rattle.operators.proofs.apply_as.Goals.{
  else-operator-via-then-operator+else-is_barred,
  else-operator-via-else-operator,
}

pub returns-then-is_barred : goal.returns-then-is_barred
returns-then-is_barred c =
    record {
      answer = answered_refused NotForOperators (barred_refused c.args.table.now c.args.ticket.now c.requires.table
          c.args.operator c.if-operator.true (sym c.is_barred.ensures.answer ∙ c.if-is_barred.true));
    }

pub returns : goal.returns
returns c =
    record {
      answer = let ticket : List ℕ = c.args.ticket.now in
          let free : c.args.operator ≡ true → is_barred ticket ≡ false =
          λ o. elim c.else-operator.branch [
            | else-operator-via-then-operator+else-is_barred w ↦ sym w.is_barred.ensures.answer ∙ w.if-is_barred.false
            | else-operator-via-else-operator w ↦ absurd (subst T (sym o ∙ w.if-operator.false) tt)
          ] in
          subst (Answered c.apply_checked.result c.apply_checked.new.table)
          (sym (free_plain c.args.table.now ticket c.requires.table c.args.operator free)) c.apply_checked.ensures.answer;
    }
