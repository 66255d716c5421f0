-- `Spans::is_object_member` meets its contract: c has one range, or none. Assumes nothing.
use mathlib.Core.Path.{◌∙◌}
use borrow.Author.Tests.{eq-eqb}
use Rattle.spans.specs.Graphs.{Stands}
use Rattle.spans.proofs.Decided.{decides_as}
use Rattle.spans.proofs.SpanFacts.{only_is}
use Rattle.spans.proofs.Spans.is_object_member.Goals as goal

pub returns-in_default : goal.returns-in_default
returns-in_default c = record { answer = λ w p n. absurd (c.in_default.ensures.answer w p) }

pub returns-then-z-eq-MARK : goal.returns-then-z-eq-MARK
returns-then-z-eq-MARK c =
    record { answer = rw (eq-eqb _ _ c.if-z-eq-MARK.true) (λ w p n. absurd (n (c.in-Some.ensures.answer.all w p ∙ c.if-z-eq-MARK.true))) }

pub returns-else-z-eq-MARK : goal.returns-else-z-eq-MARK
returns-else-z-eq-MARK c =
    record {
      answer = decides_as c.has_in_span.result _ _
          (λ h w p n. only_is c.in-Some.ensures.answer (λ x. Stands c.args.self.now.table.now 9 c.args.b x 0) h w p)
          (λ f. f _ c.in-Some.ensures.answer.some c.if-z-eq-MARK.false)
          c.has_in_span.ensures.answer;
    }
