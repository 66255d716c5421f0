use mathlib.Core.Path.{refl}
use native.Mathlib.Omega.{arith}
use Rattle.triples.proofs.Ids.{any_start, any_found, any_passed, any_end, not_first, not_second, flagged_both}
use Rattle.triples.proofs.seen.Seen.tells_twice.Goals as goal
use Rattle.triples.proofs.seen.Seen.tells_twice.Goals.{
  else-literal-via-then-literal+else-self-id,
  else-literal-via-else-literal,
}

pub loop-id-init : goal.loop-id-init
loop-id-init c = any_start _

pub returns-then-self-id : goal.returns-then-self-id
returns-then-self-id c =
    let seen = c.args.self.now in
    record {
      answer = any_found _ _ c.loop-id.invariant (omega arith)
          (flagged_both seen.literals seen.values refl refl c.if-literal.true c.if-self-id.true);
    }

pub loop-id-preserved : goal.loop-id-preserved
loop-id-preserved c =
    let seen = c.args.self.now in
    any_passed _ _ c.loop-id.invariant (omega arith)
    (elim c.else-literal.branch [
      | else-literal-via-then-literal+else-self-id w ↦ not_second seen.literals seen.values refl w.if-self-id.false
      | else-literal-via-else-literal w ↦ not_first seen.literals seen.values refl w.if-literal.false
    ])

pub returns : goal.returns
returns c = record { answer = any_end _ _ c.loop-id.invariant (omega arith) }
