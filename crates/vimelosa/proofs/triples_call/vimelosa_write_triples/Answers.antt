-- `triples_call::vimelosa_write_triples`: no text is too long for its bits. Assumes nothing.
use native.Mathlib.Omega.{arith}
use Rattle.exchange.proofs.PrintedLaws.{to_text_short}
use Rattle.vimelosa.proofs.triples_call.vimelosa_write_triples.Goals as goal

pub pack_text-requires : goal.pack_text-requires
pack_text-requires c =
    record { length = omega (arith, c.in-Ok.ensures.promise.length_is, to_text_short c.args.image.now c.args.output.now) }
