use native.Mathlib.Omega.{arith}
use Rattle.table.proofs.CountedLaws.{counted_fact}
use Rattle.triples.proofs.TextPut.{stands_start, stands_room, stands_more, stands_all}
use Rattle.triples.proofs.writer.put_text.Goals as goal

pub loop-word-init : goal.loop-word-init
loop-word-init c = stands_start c.requires.telling c.args.output.now

pub put_fact-at-requires-clause-fact : goal.put_fact-at-requires-clause-fact
put_fact-at-requires-clause-fact c = counted_fact c.requires.telling.full c.loop-word.word-index (omega arith)

pub put_fact-at-requires-clause-room : goal.put_fact-at-requires-clause-room
put_fact-at-requires-clause-room c =
    stands_room c.requires.telling c.loop-word.invariant c.requires.room (omega arith)

pub loop-word-preserved : goal.loop-word-preserved
loop-word-preserved c =
    stands_more c.requires.telling c.loop-word.invariant (omega arith) _ _ c.put_fact-at.ensures.bytes

pub returns : goal.returns
returns c = record { bytes = stands_all c.requires.telling c.loop-word.invariant (omega arith) }
