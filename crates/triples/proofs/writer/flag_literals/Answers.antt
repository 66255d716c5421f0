use native.Mathlib.Omega.{arith}
use Rattle.flags.proofs.Walks.{walk_done}
use Rattle.triples.proofs.LiteralFlags.{literals_flagged}
use Rattle.triples.proofs.writer.flag_literals.Goals as goal

pub returns : goal.returns
returns c =
    record { flags = literals_flagged c.requires.facts (walk_done c.loop-word.invariant (omega arith) (omega arith)) }
