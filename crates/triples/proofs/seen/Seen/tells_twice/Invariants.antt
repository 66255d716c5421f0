-- `Seen::tells_twice`. The loop's invariant: no id so far is flagged in both, so whether any is, is told by the ids from the index
-- on. Assumes nothing.
use mathlib.Core.Path.{◌≡◌}
use Rattle.rdfs.specs.Lists.{any}
use Rattle.triples.specs.Storing.{ids, common}
use Rattle.triples.proofs.Ids.{from}
use Rattle.triples.proofs.seen.Seen.tells_twice.Given as goal

abbrev pub invariant-loop-id : goal.invariant-loop-id
invariant-loop-id l =
    any (common l.self.literals l.self.values) ids ≡ any (common l.self.literals l.self.values) (from l.id)
