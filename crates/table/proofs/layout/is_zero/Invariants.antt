-- `layout::is_zero`. The loop's invariant: `highest` is the highest of the words before the index. Assumes nothing.
use Rattle.table.proofs.LayoutWalks.{Highest}
use Rattle.table.proofs.layout.is_zero.Given as goal

abbrev pub invariant-loop-word : goal.invariant-loop-word
invariant-loop-word l = Highest l.words l.word-index l.highest
