-- `reader::count_words`. The loop's invariant is `Passed`: as many words as the kinds passed have. Assumes nothing.
use Rattle.contents.specs.FormOf.{form_of}
use Rattle.reading.proofs.Filling.{Passed}
use Rattle.reading.proofs.reader.count_words.Given as goal

abbrev pub invariant-loop-done : goal.invariant-loop-done
invariant-loop-done l = Passed (form_of l.form) l.image l.done l.total
