use native.Mathlib.Omega.{arith}
use Rattle.spans.proofs.SpanPlaces.{before_up, after_down}
use Rattle.spans.proofs.merge.place_from.Goals as goal

pub returns-then-word-table : goal.returns-then-word-table
returns-then-word-table c =
    record {
      answer = record {
        within = omega arith;
        before = c.loop-at.invariant.before;
        after =
            after_down c.requires.words _ _ c.if-word-table.true;
      };
    }

pub loop-at-preserved : goal.loop-at-preserved
loop-at-preserved c =
    record { within = omega arith; before = before_up c.requires.words _ _ (omega arith) c.if-word-table.false }
