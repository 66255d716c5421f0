-- `step::insert_possible`: the room is as long as the words to save. Assumes nothing.
use mathlib.Core.Path.{sym}
use lib.Seq.{length-take-le}
use Rattle.ticket.proofs.Ways.{possible_fits}
use Rattle.ticket.proofs.step.insert_possible.Goals as goal

pub slice_bounds-saved-end : goal.slice_bounds-saved-end
slice_bounds-saved-end c = possible_fits c.requires.ticket

pub slice_bounds-insert_saving-end : goal.slice_bounds-insert_saving-end
slice_bounds-insert_saving-end c = sym (length-take-le _ _ (possible_fits c.requires.ticket))

pub insert_saving-requires-clause-ticket : goal.insert_saving-requires-clause-ticket
insert_saving-requires-clause-ticket c = c.requires.ticket

pub insert_saving-requires-clause-saved : goal.insert_saving-requires-clause-saved
insert_saving-requires-clause-saved c = length-take-le _ _ (possible_fits c.requires.ticket)
