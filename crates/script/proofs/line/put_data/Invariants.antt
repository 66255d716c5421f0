-- `put_data`: the bytes put are within the room. The measure is what is left of the text. Assumes nothing.
use Rattle.std.proofs.Common.{length, ◌≤◌}
use Rattle.script.proofs.line.put_data.Given as goal

abbrev pub invariant-loop-rest : goal.invariant-loop-rest
invariant-loop-rest l = l.count ≤ length l.out

abbrev pub decreases-loop-rest : goal.decreases-loop-rest
decreases-loop-rest l = length l.rest
