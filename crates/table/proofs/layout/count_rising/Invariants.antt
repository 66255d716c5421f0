-- `layout::count_rising`. The loop's invariant is `Walk`: the table is laid out if the rest is, from above the last word on.
-- Assumes nothing.
use Rattle.table.proofs.LayoutWalks.{Walk}
use Rattle.table.proofs.layout.count_rising.Given as goal

abbrev pub invariant-loop-place : goal.invariant-loop-place
invariant-loop-place l = Walk l.table l.place l.last
