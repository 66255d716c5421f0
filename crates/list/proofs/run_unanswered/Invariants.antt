-- `run_unanswered`: the invariant is `Unanswered`, that the tickets so far are run; with it the table stays consistent. Assumes
-- nothing.
use Rattle.std.proofs.Common.{◌≡◌}
use Rattle.std.specs.Slice.Iter.{chunks_rest, chunks_size}
use Rattle.rdfs.specs.Numbers.{product, record_length}
use Rattle.rdfs.specs.Operators.{step_as}
use Rattle.list.proofs.Unanswered.{Unanswered}
use Rattle.list.proofs.run_unanswered.Given as goal

abbrev pub invariant-loop-ticket : goal.invariant-loop-ticket
invariant-loop-ticket l = record {
  five : chunks_size l.ticket-iterator ≡ record_length;
  walk : Unanswered (step_as l.operator product) l.initial.table l.bytes (chunks_rest l.ticket-iterator) l.table;
}
