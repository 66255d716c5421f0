use native.Mathlib.Omega.{arith}
use Rattle.writing.proofs.BytesPut.{bytes_start, bytes_length, bytes_more, bytes_all}
use Rattle.writing.proofs.writer.put_bytes.Goals as goal

pub loop-stored-init : goal.loop-stored-init
loop-stored-init c = bytes_start _ _ _ _ c.requires.small

pub overflow_add-output : goal.overflow_add-output
overflow_add-output c = omega (arith, c.loop-stored-test.true, c.requires.room)

pub bounds-output-at : goal.bounds-output-at
bounds-output-at c =
    omega (arith, c.loop-stored-test.true, c.requires.room, bytes_length c.loop-stored.invariant c.requires.room)

pub loop-stored-preserved : goal.loop-stored-preserved
loop-stored-preserved c = bytes_more c.loop-stored.invariant c.requires.room c.loop-stored-test.true

pub returns : goal.returns
returns c =
    record { bytes = bytes_all c.loop-stored.invariant c.requires.room c.loop-stored-test.false }
