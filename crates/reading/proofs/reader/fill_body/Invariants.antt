-- `reader::fill_body`. The loop's invariant is `Stored`: the first words stand in their places. Assumes nothing.
use Rattle.contents.specs.FormOf.{form_of}
use Rattle.reading.proofs.Filling.{Stored}
use Rattle.reading.proofs.reader.fill_body.Given as goal

abbrev pub invariant-loop-word : goal.invariant-loop-word
invariant-loop-word l =
    Stored (form_of l.form) l.image l.k l.from l.initial.word-items l.word-items l.word-index l.at
