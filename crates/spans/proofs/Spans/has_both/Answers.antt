-- `Spans::has_both` meets its contract. Assumes nothing.
use Rattle.table.proofs.TestAnswers.{decides_true}
use Rattle.spans.proofs.Decided.{decides_as, decides_first}
use Rattle.spans.proofs.Spans.has_both.Goals as goal

pub returns-then-has_least : goal.returns-then-has_least
returns-then-has_least c =
    record {
      answer = decides_as c.has_least-then-has_least.result _ _ (λ h. (
        decides_true c.has_least.result
            c.has_least.ensures.answer c.if-has_least.true,
        h,
      )) (λ h. h.1) c.has_least-then-has_least.ensures.answer;
    }

pub returns-else-has_least : goal.returns-else-has_least
returns-else-has_least c =
    record { answer = decides_first c.has_least.result _ _ (λ h. h.0) c.if-has_least.false c.has_least.ensures.answer }
