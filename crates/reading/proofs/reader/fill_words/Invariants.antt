-- `reader::fill_words`. The loop's invariant is `Filled`: the words of the kinds passed stand in their places.
-- Assumes nothing.
use Rattle.contents.specs.FormOf.{form_of}
use Rattle.reading.proofs.FilledBodies.{Filled}
use Rattle.reading.proofs.reader.fill_words.Given as goal

abbrev pub invariant-loop-done : goal.invariant-loop-done
invariant-loop-done l = Filled (form_of l.form) l.image l.initial.table l.table l.done l.place
