-- `search::count_up_to`. The loop's invariant: at least `place` words are at most the word. Assumes nothing.
use Prim.Native.Nat.{◌+◌, ◌≤◌}
use Rattle.table.specs.Found.{below}
use Rattle.table.proofs.search.count_up_to.Given as goal

abbrev pub invariant-loop-place : goal.invariant-loop-place
invariant-loop-place l = l.place ≤ below l.words (l.word + 1)
