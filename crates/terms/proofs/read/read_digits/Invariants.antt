-- `read_digits`. The loop's invariant: the digits so far are the number's, by NumberSoFar. The measure is the length of what is
-- left. Assumes nothing.
use lib.ListN.{length}
use Rattle.terms.proofs.DigitsReading.{NumberSoFar}
use Rattle.terms.proofs.read.read_digits.Given as goal

abbrev pub invariant-loop-digit : goal.invariant-loop-digit
invariant-loop-digit l = NumberSoFar l.text l.value l.rest

abbrev pub decreases-loop-digit : goal.decreases-loop-digit
decreases-loop-digit l = length l.rest
