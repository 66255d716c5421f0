-- `put_short`: a number of 16 bits has at most five digits. Assumes nothing.
use native.Mathlib.Omega.{arith}
use Rattle.text.proofs.PutText.{number_fits, number_end}
use Rattle.report.proofs.lines.put_short.Goals as goal

pub put_number-requires : goal.put_number-requires
put_number-requires c =
    record {
      room = number_fits 5 c.args.number c.args.after (omega arith) (omega (arith, c.ranges.number.fits)) c.args.at
          c.args.out.now
          c.requires.room;
    }

pub returns-clause-bound : goal.returns-clause-bound
returns-clause-bound c =
    number_end 5 c.args.number c.args.after (omega arith) (omega (arith, c.ranges.number.fits)) c.put_number.ensures.text

pub returns-clause-text : goal.returns-clause-text
returns-clause-text c = c.put_number.ensures.text
