-- `writer::find_ends`. The loop's invariant is `Found`: the ends of the kinds passed are stored. Assumes nothing.
use Rattle.writing.proofs.EndsFound.{Found}
use Rattle.writing.proofs.writer.find_ends.Given as goal

abbrev pub invariant-loop-done : goal.invariant-loop-done
invariant-loop-done l = Found l.table l.count l.initial.ends l.ends l.done
