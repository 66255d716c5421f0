-- `merge::group_start` meets its contract: the word at the place goes on with the group of the word before, or begins one.
-- Assumes nothing.
use Rattle.spans.proofs.GroupStarts.{group_goes_on, group_begins}
use Rattle.spans.proofs.merge.group_start.Goals as goal

pub returns-then-table-group : goal.returns-then-table-group
returns-then-table-group c = record { answer = group_goes_on _ _ c.requires.group c.if-table-group.true }

pub returns : goal.returns
returns c = record { answer = group_begins _ _ c.requires.group c.if-table-group.false }
