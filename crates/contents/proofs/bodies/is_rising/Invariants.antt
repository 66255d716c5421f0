-- `bodies::is_rising`. The loop's invariant is `Climbed`: the words of the kinds passed are facts, ascending up to `last`. The
use Rattle.contents.specs.FormOf.{form_of}
use Rattle.contents.proofs.Climbing.{Climbed}
use Rattle.contents.proofs.bodies.is_rising.Given as goal

abbrev pub invariant-loop-done : goal.invariant-loop-done
invariant-loop-done l = Climbed (form_of l.form) l.image l.done l.last
