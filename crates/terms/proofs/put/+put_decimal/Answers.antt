use native.Mathlib.Omega.{arith}
use Rattle.terms.proofs.DigitsPut.{one_room, one_put, more_room, more_place, more_put}
use Rattle.terms.proofs.put.+put_decimal.Goals as goal

pub bounds-output-at : goal.bounds-output-at
bounds-output-at t c = one_room c.args.output.now c.args.at c.args.n c.requires.room c.if-n-lt10.true

pub returns-then-n-lt10 : goal.returns-then-n-lt10
returns-then-n-lt10 t c =
    record { bytes = one_put c.args.output.now c.args.at c.args.n c.requires.room c.if-n-lt10.true }

pub put_decimal-last-requires : goal.put_decimal-last-requires
put_decimal-last-requires t c =
    (omega arith, more_room c.args.output.now c.args.at c.args.n c.requires.room c.if-n-lt10.false)

pub bounds-output-last : goal.bounds-output-last
bounds-output-last t c =
    more_place c.args.output.now c.args.at c.args.n c.requires.room c.if-n-lt10.false c.put_decimal-last.ensures.bytes

pub returns : goal.returns
returns t c =
    record {
      bytes = more_put c.args.output.now c.args.at c.args.n c.requires.room c.if-n-lt10.false c.put_decimal-last.ensures.bytes;
    }
