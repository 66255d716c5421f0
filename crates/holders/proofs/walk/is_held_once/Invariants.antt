-- `walk::is_held_once` meets its contract. The loop's invariant: the values of property z from the place of `link` on, and no
-- others, are stamped, and none of them twice. The measure is `link`. Assumes nothing.
use Rattle.holders.proofs.Walking.{Walking}
use Rattle.holders.proofs.walk.is_held_once.Given as goal

abbrev pub invariant-loop-link : goal.invariant-loop-link
invariant-loop-link l = Walking l.table l.seen l.z l.link

abbrev pub decreases-loop-link : goal.decreases-loop-link
decreases-loop-link l = l.link
