-- `Spans::has_range_roles` meets its contract. Assumes nothing.
use borrow.Author.Tests.{eq-eqb}
use Rattle.table.proofs.TestAnswers.{decides_true}
use Rattle.spans.proofs.Decided.{decides_as, decides_first}
use Rattle.spans.proofs.Spans.has_range_roles.Goals as goal

pub returns-else-has_least : goal.returns-else-has_least
returns-else-has_least c =
    record { answer = decides_first c.has_least.result _ _ (λ h. h.0) c.if-has_least.false c.has_least.ensures.answer }

pub returns-then-b-eq-MARK : goal.returns-then-b-eq-MARK
returns-then-b-eq-MARK c =
    record {
      answer = rw (eq-eqb _ _ c.if-b-eq-MARK.true) (
        decides_true c.has_least.result c.has_least.ensures.answer c.if-has_least.true,
        λ n. absurd (n c.if-b-eq-MARK.true),
      );
    }

pub returns-else-b-eq-MARK : goal.returns-else-b-eq-MARK
returns-else-b-eq-MARK c =
    record {
      answer = decides_as c.has_least-else-b-eq-MARK.result _ _ (λ h. (
        decides_true c.has_least.result c.has_least.ensures.answer c.if-has_least.true,
        λ n. h,
      )) (λ h. h.1 c.if-b-eq-MARK.false) c.has_least-else-b-eq-MARK.ensures.answer;
    }
