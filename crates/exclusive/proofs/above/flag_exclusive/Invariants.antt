-- `above::flag_exclusive`. The loop's invariant is `Flagging`: the flags are those of the words that were seen. Assumes nothing.
use Rattle.exclusive.proofs.AboveFlags.{Flagging}
use Rattle.exclusive.proofs.above.flag_exclusive.Given as goal

abbrev pub invariant-loop-word : goal.invariant-loop-word
invariant-loop-word l = Flagging l.facts l.word-items l.word-index l.p l.initial.flags l.flags l.some
