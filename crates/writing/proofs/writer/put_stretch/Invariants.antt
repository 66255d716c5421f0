-- `writer::put_stretch`. The loop's invariant is `Embodied`: the facts before the word are stored. Assumes nothing.
use Prim.Native.Nat.{◌+◌, ◌≤◌}
use Rattle.rdfs.specs.Words.{filled}
use Rattle.contents.specs.FormOf.{form_of}
use Rattle.writing.specs.Writing.{Embodied}
use Rattle.writing.proofs.writer.put_stretch.Given as goal

abbrev pub invariant-loop-word : goal.invariant-loop-word
invariant-loop-word l =
    Embodied (form_of l.form) (filled l.table) l.initial.output l.output (l.from + l.word-index) l.at
    × (l.start ≤ l.at)
