-- `entries::is_chained`. The loop's invariant is `Walk`: the entries are right if those still to come are. The measure is the
-- number of kinds left. Assumes nothing.
use Rattle.contents.specs.FormOf.{form_of}
use Rattle.contents.proofs.Linking.{Walk}
use Rattle.contents.proofs.entries.is_chained.Given as goal

abbrev pub invariant-loop-done : goal.invariant-loop-done
invariant-loop-done l = Walk (form_of l.form) l.image l.done l.start
