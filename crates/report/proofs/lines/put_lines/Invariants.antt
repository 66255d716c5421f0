-- `put_lines`: the invariant is `PrintingBytes`, that the tickets so far are run and their lines gathered. Assumes nothing.
use Rattle.std.proofs.Common.{◌≡◌, length}
use Rattle.std.specs.Slice.Iter.{chunks_rest, chunks_size}
use Rattle.rdfs.specs.Numbers.{record_length}
use Rattle.report.proofs.Printing.{PrintingBytes}
use Rattle.report.proofs.lines.put_lines.Given as goal

abbrev pub invariant-loop-ticket : goal.invariant-loop-ticket
invariant-loop-ticket l = record {
  five : chunks_size l.ticket-iterator ≡ record_length;
  room : length l.out ≡ length l.initial.out;
  lines : PrintingBytes l.initial.table l.bytes (chunks_rest l.ticket-iterator) l.at l.table l.out;
}
