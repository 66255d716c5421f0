-- `writer::text_length`. The loop's invariant is `Passed`: the text of the words before the index has `total` bytes. Assumes
-- nothing.
use Rattle.triples.proofs.TextPut.{Passed}
use Rattle.triples.proofs.writer.text_length.Given as goal

abbrev pub invariant-loop-word : goal.invariant-loop-word
invariant-loop-word l = Passed l.facts l.literals l.word-index l.total
