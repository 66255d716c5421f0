-- number of facts left. Assumes nothing.
use Rattle.contents.specs.FormOf.{form_of}
use Rattle.contents.proofs.Climbing.{Climb}
use Rattle.contents.proofs.bodies.rise_of.Given as goal

abbrev pub invariant-loop-passed : goal.invariant-loop-passed
invariant-loop-passed l = Climb (form_of l.form) l.image l.k l.from l.count l.last l._passed l.place l.top
