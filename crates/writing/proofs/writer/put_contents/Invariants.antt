-- `writer::put_contents`. The loop's invariant is `Entered`: the entries of the kinds passed are stored, and their
-- bodies end at `start`. Assumes nothing.
use Rattle.contents.specs.FormOf.{form_of}
use Rattle.writing.proofs.PutParts.{Entered}
use Rattle.writing.proofs.writer.put_contents.Given as goal

abbrev pub invariant-loop-done : goal.invariant-loop-done
invariant-loop-done l = Entered (form_of l.form) l.ends l.initial.output l.output l.done l.start
