-- `Spans::has_linked_ranges` meets its contract: a and b have one range each, or none. Assumes nothing.
use mathlib.Core.Path.{◌∙◌, sym}
use Rattle.spans.specs.Graphs.{Stands}
use Rattle.spans.proofs.Decided.{decides_as}
use Rattle.spans.proofs.SpanFacts.{only_both}
use Rattle.spans.proofs.Spans.has_linked_ranges.Goals as goal
use Rattle.spans.proofs.Spans.has_linked_ranges.Goals.{
  then-y-z-via-then-y-z,
  then-y-z-via-else-y-z+then-y-eq-MARK,
  then-y-z-via-else-y-z+else-y-eq-MARK+then-z-eq-MARK,
}

pub returns-in_default : goal.returns-in_default
returns-in_default c = record { answer = λ z w p q n m o. absurd (c.in_default.ensures.answer z p) }

pub returns-in_default-only_second : goal.returns-in_default-only_second
returns-in_default-only_second c = record { answer = λ z w p q n m o. absurd (c.in_default-only_second.ensures.answer w q) }

pub returns-then-y-z : goal.returns-then-y-z
returns-then-y-z c =
    record {
      answer = λ z w p q n m o. let y-is = c.in-Some.ensures.answer.all z p in
          let z-is = c.in-Some-only_second.ensures.answer.all w q in
          absurd (elim c.then-y-z.branch [
            | then-y-z-via-then-y-z v ↦ n (y-is ∙ v.if-y-z.true ∙ sym z-is)
            | then-y-z-via-else-y-z+then-y-eq-MARK v ↦ m (y-is ∙ v.if-y-eq-MARK.true)
            | then-y-z-via-else-y-z+else-y-eq-MARK+then-z-eq-MARK v ↦ o (z-is ∙ v.if-z-eq-MARK.true)
          ]);
    }

pub returns : goal.returns
returns c =
    record {
      answer = decides_as c.has_in_span.result _ _
          (λ h z w p q n m o. only_both c.in-Some.ensures.answer c.in-Some-only_second.ensures.answer (λ x y. Stands c.args.self.now.table.now 5 x y 0) h z w p q)
          (λ f. f _ _ c.in-Some.ensures.answer.some c.in-Some-only_second.ensures.answer.some c.if-y-z.false c.if-y-eq-MARK.false c.if-z-eq-MARK.false)
          c.has_in_span.ensures.answer;
    }
