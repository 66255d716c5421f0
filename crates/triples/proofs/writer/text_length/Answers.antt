use native.Mathlib.Omega.{arith}
use Rattle.table.proofs.CountedLaws.{counted_fact}
use Rattle.triples.proofs.TextPut.{passed_start, passed_fits, passed_more, passed_all, text_short}
use Rattle.triples.proofs.writer.text_length.Goals as goal

pub loop-word-init : goal.loop-word-init
loop-word-init c = passed_start c.requires.telling

pub fact_length-total-requires : goal.fact_length-total-requires
fact_length-total-requires c =
    record { fact = counted_fact c.requires.telling.full c.loop-word.word-index (omega arith) }

pub overflow_add-total : goal.overflow_add-total
overflow_add-total c =
    omega (
      arith,
      c.fact_length-total.ensures.answer,
      passed_fits c.requires.telling c.loop-word.invariant (omega arith),
      text_short c.requires.telling,
    )

pub loop-word-preserved : goal.loop-word-preserved
loop-word-preserved c =
    passed_more c.requires.telling c.loop-word.invariant (omega arith) _ (omega (arith, c.fact_length-total.ensures.answer))

pub returns : goal.returns
returns c = record { answer = passed_all c.requires.telling c.loop-word.invariant (omega arith) }
