-- `ask_checked`: the work table is as long as the table. Assumes nothing.
use mathlib.Core.Path.{sym}
use lib.Seq.{length-take-le}
use Rattle.preview.proofs.ask_checked.Goals as goal

pub slice_bounds-work-end : goal.slice_bounds-work-end
slice_bounds-work-end c = c.requires.table.fits

pub slice_bounds-ask_on-end : goal.slice_bounds-ask_on-end
slice_bounds-ask_on-end c = sym (length-take-le _ _ c.requires.table.fits)

pub ask_on-requires-clause-table : goal.ask_on-requires-clause-table
ask_on-requires-clause-table c = c.requires.table

pub ask_on-requires-clause-work : goal.ask_on-requires-clause-work
ask_on-requires-clause-work c = length-take-le _ _ c.requires.table.fits
