use Prim.Native.Nat.{◌<◌}
use native.Mathlib.Omega.{arith}
use lib.ListN.{length}
use Rattle.differences.proofs.Matching.{match_put}
use Rattle.differences.proofs.besides.put_besides.Goals as goal

pub loop-slot-preserved : goal.loop-slot-preserved
loop-slot-preserved c =
    let room : c.loop-slot.slot-index < length c.loop-slot.run = omega (arith, c.loop-slot-test.true, c.loop-slot.auto.run) in
    match_put c.loop-slot.invariant room c.next_besides-next.result c.next_besides-next.ensures.answer
