-- `writer::put_text`. The loop's invariant is `Stands`: the text of the words before the index stands in the first `at` bytes.
-- Assumes nothing.
use Rattle.triples.proofs.TextPut.{Stands}
use Rattle.triples.proofs.writer.put_text.Given as goal

abbrev pub invariant-loop-word : goal.invariant-loop-word
invariant-loop-word l = Stands l.facts l.literals l.initial.output l.output l.word-index l.at
