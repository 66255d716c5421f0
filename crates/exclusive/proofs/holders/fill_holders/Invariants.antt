-- `holders::fill_holders`. The loop's invariant is `Noted`: the holders are those of the values of p among the words that were
-- seen. Assumes nothing.
use Rattle.exclusive.proofs.HolderLaws.{Noted}
use Rattle.exclusive.proofs.holders.fill_holders.Given as goal

abbrev pub invariant-loop-word : goal.invariant-loop-word
invariant-loop-word l = Noted l.word-items l.word-index l.p l.holders
