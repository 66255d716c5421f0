-- `run_each`: the invariant is `ByteWalk`, that the tickets so far are run. Assumes nothing.
use Rattle.std.proofs.Common.{◌≡◌}
use Rattle.std.specs.Slice.Iter.{chunks_rest, chunks_size}
use Rattle.std.specs.Iterator.Adapters.{enumerate_source, enumerate_count}
use Rattle.rdfs.specs.Numbers.{product, record_length}
use Rattle.rdfs.specs.Register.{step}
use Rattle.list_form.proofs.ByteWalk.{ByteWalk}
use Rattle.singles.proofs.run_each.Given as goal

abbrev pub invariant-loop-place : goal.invariant-loop-place
invariant-loop-place l = record {
  five : chunks_size (enumerate_source l.place-iterator) ≡ record_length;
  walk : ByteWalk (step product) l.initial.table l.initial.answers l.bytes
      (chunks_rest (enumerate_source l.place-iterator)) (enumerate_count l.place-iterator) l.accepted l.table l.answers;
}
