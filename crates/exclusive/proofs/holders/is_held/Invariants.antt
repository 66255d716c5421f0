-- `holders::is_held`. The loop's invariant is `Unshared`: no word that was seen has a flagged property and a value that another
-- holds. Assumes nothing.
use Rattle.exclusive.proofs.HolderLaws.{Unshared}
use Rattle.exclusive.proofs.holders.is_held.Given as goal

abbrev pub invariant-loop-word : goal.invariant-loop-word
invariant-loop-word l = Unshared l.word-items l.word-index l.flags l.holders
