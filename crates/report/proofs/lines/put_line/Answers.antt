-- `put_line`: three numbers, one after another. Assumes nothing.
use Rattle.report.proofs.LinePut.{line_put}
use Rattle.report.proofs.Printing.{line_same}
use Rattle.report.proofs.lines.put_line.Goals as goal

pub returns-clause-text : goal.returns-clause-text
returns-clause-text c =
    let put = line_put c.put_short-second.ensures.text c.put_short-third.ensures.text c.put_short.ensures.text in
    record {
      text = put.text;
      is = line_same put.text c.answer_of.ensures.answer c.counts_of-added.ensures.added c.counts_of-added.ensures.removed put.is;
      there = put.there;
      end = put.end;
    }
