-- `commit_checked`: the work table is as long as the table. Assumes nothing.
use mathlib.Core.Path.{sym}
use lib.Seq.{length-take-le}
use Rattle.preview.proofs.commit_checked.Goals as goal

pub slice_bounds-work-end : goal.slice_bounds-work-end
slice_bounds-work-end c = c.requires.table.fits

pub slice_bounds-commit_on-end : goal.slice_bounds-commit_on-end
slice_bounds-commit_on-end c = sym (length-take-le _ _ c.requires.table.fits)

pub commit_on-requires-clause-table : goal.commit_on-requires-clause-table
commit_on-requires-clause-table c = c.requires.table

pub commit_on-requires-clause-work : goal.commit_on-requires-clause-work
commit_on-requires-clause-work c = length-take-le _ _ c.requires.table.fits
