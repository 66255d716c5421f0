-- `writer::put_bodies`. The loop's invariant is `Embodied`: the facts of the kinds passed are stored. Assumes
-- nothing.
use lib.ListN.{get_or}
use Rattle.rdfs.specs.Words.{filled}
use Rattle.contents.specs.FormOf.{form_of}
use Rattle.writing.specs.Writing.{Embodied}
use Rattle.writing.proofs.writer.put_bodies.Given as goal

abbrev pub invariant-loop-done : goal.invariant-loop-done
invariant-loop-done l =
    Embodied (form_of l.form) (filled l.table) l.initial.output l.output (get_or l.ends l.done 0) l.at
