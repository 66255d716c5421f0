-- `writer::image_length`. The loop's invariant is `Measured`: the bodies of the kinds passed end at `length`. Assumes
-- nothing.
use Rattle.contents.specs.FormOf.{form_of}
use Rattle.writing.proofs.EndsLaws.{Measured}
use Rattle.writing.proofs.writer.image_length.Given as goal

abbrev pub invariant-loop-done : goal.invariant-loop-done
invariant-loop-done l = Measured (form_of l.form) l.ends l.done l.length
