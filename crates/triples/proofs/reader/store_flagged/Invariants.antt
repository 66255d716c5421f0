-- `reader::store_flagged`. The loop's invariant is `Pending`: the words of the flagged ids from n on are still to be stored.
-- Assumes nothing.
use Rattle.triples.specs.Storing.{ids, flagged_from}
use Rattle.triples.proofs.Pending.{Pending}
use Rattle.triples.proofs.Ids.{from}
use Rattle.triples.proofs.reader.store_flagged.Given as goal

abbrev pub invariant-loop-n : goal.invariant-loop-n
invariant-loop-n l =
    Pending l.initial.table (flagged_from l.k l.flags ids) (flagged_from l.k l.flags (from l.n)) l.table l.total
