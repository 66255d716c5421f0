-- `put_line`: a word has at most ten digits. Assumes nothing.
use native.Mathlib.Omega.{arith}
use Rattle.text.proofs.PutText.{number_fits, number_end}
use Rattle.print_facts.proofs.lines.put_line.Goals as goal

pub put_number-requires : goal.put_number-requires
put_number-requires c =
    record {
      room = number_fits 10 c.args.word 10 (omega arith) (omega (arith, c.ranges.word.fits)) c.args.at c.args.out.now
          c.requires.room;
    }

pub returns-clause-bound : goal.returns-clause-bound
returns-clause-bound c = number_end 10 c.args.word 10 (omega arith) (omega (arith, c.ranges.word.fits)) c.put_number.ensures.text

pub returns-clause-text : goal.returns-clause-text
returns-clause-text c = c.put_number.ensures.text
