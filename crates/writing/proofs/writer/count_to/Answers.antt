-- `writer::count_to`: the facts of the kinds up to k stand before the first word of the next. Assumes nothing.
use native.Mathlib.Omega.{arith}
use mathlib.Core.Path.{ap, ◌∙◌}
use lib.ListN.{take}
use Rattle.table.specs.Found.{below}
use Rattle.table.proofs.CutTable.{cut_length, cut_ascending}
use Rattle.writing.proofs.writer.count_to.Goals as goal

pub word_of-next-requires : goal.word_of-next-requires
word_of-next-requires c =
    record {
      digits = record {
        kind = omega (arith, c.requires.kind);
        first = omega arith;
        second = omega arith;
        third = omega arith;
      };
    }

pub slice_bounds-count_below-end : goal.slice_bounds-count_below-end
slice_bounds-count_below-end c = cut_length c.requires.table.counted

pub count_below-requires : goal.count_below-requires
count_below-requires c = record { words = cut_ascending c.requires.table.counted }

pub returns : goal.returns
returns c =
    record {
      answer = c.count_below.ensures.answer ∙ ap (below (take c.args.count c.args.table.now)) c.word_of-next.ensures.answer;
    }
