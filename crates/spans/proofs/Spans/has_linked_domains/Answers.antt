-- `Spans::has_linked_domains` meets its contract: a and b have one domain each, or none. Assumes nothing.
use mathlib.Core.Path.{◌∙◌, sym}
use borrow.Author.Tests.{eq-eqb}
use Rattle.spans.specs.Graphs.{Stands}
use Rattle.spans.proofs.Decided.{decides_as}
use Rattle.spans.proofs.SpanFacts.{only_both}
use Rattle.spans.proofs.Spans.has_linked_domains.Goals as goal

pub returns-in_default : goal.returns-in_default
returns-in_default c = record { answer = λ z w p q n. absurd (c.in_default.ensures.answer z p) }

pub returns-in_default-only_second : goal.returns-in_default-only_second
returns-in_default-only_second c = record { answer = λ z w p q n. absurd (c.in_default-only_second.ensures.answer w q) }

pub returns-then-y-z : goal.returns-then-y-z
returns-then-y-z c =
    record {
      answer = rw (eq-eqb _ _ c.if-y-z.true) (λ z w p q n. absurd (n (c.in-Some.ensures.answer.all z p ∙ c.if-y-z.true
          ∙ sym (c.in-Some-only_second.ensures.answer.all w q))));
    }

pub returns-else-y-z : goal.returns-else-y-z
returns-else-y-z c =
    record {
      answer = decides_as c.has_in_span.result _ _
          (λ h z w p q n. only_both c.in-Some.ensures.answer c.in-Some-only_second.ensures.answer (λ x y. Stands c.args.self.now.table.now 5 x y 0) h z w p q)
          (λ f. f _ _ c.in-Some.ensures.answer.some c.in-Some-only_second.ensures.answer.some c.if-y-z.false)
          c.has_in_span.ensures.answer;
    }
