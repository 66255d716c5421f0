-- `Spans::has_domain_and_range` meets its contract. Assumes nothing.
use Rattle.table.proofs.TestAnswers.{decides_true}
use Rattle.spans.proofs.Decided.{decides_as, decides_first}
use Rattle.spans.proofs.Spans.has_domain_and_range.Goals as goal

pub returns-then-has_some : goal.returns-then-has_some
returns-then-has_some c =
    record {
      answer = decides_as c.has_some-then-has_some.result _ _ (λ h. (
        decides_true c.has_some.result
            c.has_some.ensures.answer c.if-has_some.true,
        h,
      )) (λ h. h.1) c.has_some-then-has_some.ensures.answer;
    }

pub returns-else-has_some : goal.returns-else-has_some
returns-else-has_some c =
    record { answer = decides_first c.has_some.result _ _ (λ h. h.0) c.if-has_some.false c.has_some.ensures.answer }
