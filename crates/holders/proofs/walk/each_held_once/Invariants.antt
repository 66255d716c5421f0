-- `walk::each_held_once` meets its contract. The loop's invariant: the exclusive properties before the next are gone through, and
-- no stamp is above one of those left. Assumes nothing.
use Rattle.holders.proofs.Exclusives.{Judging}
use Rattle.holders.proofs.walk.each_held_once.Given as goal

abbrev pub invariant-loop-property : goal.invariant-loop-property
invariant-loop-property l = Judging l.table l.properties l.seen l.property-index
