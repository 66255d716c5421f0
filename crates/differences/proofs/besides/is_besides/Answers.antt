use Rattle.differences.proofs.Matching.{match_met, match_missed, match_done, same_true, same_false}
use Rattle.differences.proofs.besides.is_besides.Goals as goal

pub returns-then-word-words : goal.returns-then-word-words
returns-then-word-words c =
    record {
      answer = same_false _ _ (match_missed c.loop-word.invariant c.loop-word-test.true c.next_besides-next.result
          c.next_besides-next.ensures.answer c.if-word-words.true);
    }

pub loop-word-preserved : goal.loop-word-preserved
loop-word-preserved c =
    match_met c.loop-word.invariant c.loop-word-test.true c.next_besides-next.result c.next_besides-next.ensures.answer
    c.if-word-words.false

pub returns : goal.returns
returns c = record { answer = same_true _ _ (match_done c.loop-word.invariant c.loop-word-test.false) }
