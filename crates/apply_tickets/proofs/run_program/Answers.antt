-- `run_program`: a fresh table of the most words, all turns, the count. Assumes nothing.
use native.Mathlib.Omega.{arith}
use Rattle.report.proofs.Chunk.{made_fresh, lent_fresh}
use Rattle.report.proofs.WholeInput.{ran_table, ran_prints}
use Rattle.apply_tickets.proofs.run_program.Goals as goal

pub run_input-all-requires : goal.run_input-all-requires
run_input-all-requires g c =
    record {
      lent = let words = made_fresh c.args.table.now c.requires.most c.fresh-outcome.ensures.words in
          lent_fresh words c.requires.sized;
    }

pub put_count-length-requires : goal.put_count-length-requires
put_count-length-requires g c =
    let words = made_fresh c.args.table.now c.requires.most c.fresh-outcome.ensures.words in
    let all = c.run_input-all in record {
      table = ran_table _ c.requires.sized.whole words all.result c.if-not-all.false all.ensures.turns;
      room = omega (arith, c.requires.sized.room, all.auto.out);
    }

pub returns : goal.returns
returns g c =
    let words = made_fresh c.args.table.now c.requires.most c.fresh-outcome.ensures.words in
    let all = c.run_input-all in
    let count = c.put_count-length in record {
      printed = ran_prints _ c.requires.sized.whole words all.result c.if-not-all.false all.ensures.turns count.result
          count.new.out count.ensures.text;
    }
