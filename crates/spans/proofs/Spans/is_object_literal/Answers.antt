-- `Spans::is_object_literal` meets its contract: c has one range, or none. Assumes nothing.
use mathlib.Core.Path.{sym, subst}
use borrow.Author.Tests.{ne_eqb}
use Rattle.spans.specs.Graphs.{Stands}
use Rattle.spans.proofs.Decided.{decides_as}
use Rattle.spans.proofs.Spans.is_object_literal.Goals as goal

pub returns-in_default : goal.returns-in_default
returns-in_default c = record { answer = λ p. absurd (c.in_default.ensures.answer 1 p) }

pub returns-then-z-ne-MARK : goal.returns-then-z-ne-MARK
returns-then-z-ne-MARK c =
    record { answer = rw (ne_eqb _ _ c.if-z-ne-MARK.true) (λ p. absurd (c.if-z-ne-MARK.true (sym (c.in-Some.ensures.answer.all 1 p)))) }

pub returns-else-z-ne-MARK : goal.returns-else-z-ne-MARK
returns-else-z-ne-MARK c =
    record {
      answer = decides_as c.has_least.result _ _ (λ h p. h)
          (λ f. f (subst (λ x. Stands c.args.self.now.table.now 8 c.args.c x 0) c.if-z-ne-MARK.false c.in-Some.ensures.answer.some))
          c.has_least.ensures.answer;
    }
