-- `writer::put_bytes`. The loop's invariant is `BytesPut`: the first bytes are stored, the others are those of
-- `rest`. Assumes nothing.
use Rattle.writing.proofs.BytesPut.{BytesPut}
use Rattle.writing.proofs.writer.put_bytes.Given as goal

abbrev pub invariant-loop-stored : goal.invariant-loop-stored
invariant-loop-stored l = BytesPut l.initial.output l.at l.value l.size l.output l.stored l.rest
