-- `Spans::is_literal_only` meets its contract. Assumes nothing.
use mathlib.Core.Path.{sym, ◌∙◌}
use Rattle.table.proofs.TestAnswers.{decides_true, decides_false}
use Rattle.spans.proofs.Decided.{decides_as, true_false}
use Rattle.spans.proofs.Spans.is_literal_only.Goals as goal
use Rattle.spans.proofs.Spans.is_literal_only.Goals.{then-lacks_least, else-lacks_least}

pub returns-then-lacks_least-2 : goal.returns-then-lacks_least-2
returns-then-lacks_least-2 c =
    record {
      answer = decides_as c.lacks_least-then-lacks_least-2.result _ _ (λ h. elim c.if-lacks_least.branch [
        | then-lacks_least w ↦ (
          decides_true c.lacks_least.result c.lacks_least.ensures.answer w.if-lacks_least.true,
          decides_true w.lacks_least-then-lacks_least.result w.lacks_least-then-lacks_least.ensures.answer
              (sym w.value-is ∙ c.if-lacks_least-2.true),
          h,
        )
        | else-lacks_least w ↦ absurd (true_false (sym c.if-lacks_least-2.true ∙ w.value-is ∙ w.if-lacks_least.false))
      ]) (λ h. h.2) c.lacks_least-then-lacks_least-2.ensures.answer;
    }

pub returns-else-lacks_least-2 : goal.returns-else-lacks_least-2
returns-else-lacks_least-2 c =
    record {
      answer = rw c.if-lacks_least-2.false (λ h. elim c.if-lacks_least.branch [
        | then-lacks_least w ↦ decides_false w.lacks_least-then-lacks_least.result w.lacks_least-then-lacks_least.ensures.answer
            (sym w.value-is ∙ c.if-lacks_least-2.false) h.1
        | else-lacks_least w ↦ decides_false c.lacks_least.result c.lacks_least.ensures.answer w.if-lacks_least.false h.0
      ]);
    }
