use mathlib.Core.Path.{◌∙◌}
use Rattle.triples.proofs.LinesLeft.{line_shorter}
use Rattle.triples.proofs.LinesStored.{lines_more, lines_full, lines_done}
use Rattle.triples.proofs.reader.store_lines.Goals as goal

pub returns-in_err-total : goal.returns-in_err-total
returns-in_err-total c =
    let full = c.in_err-total.ensures.words in
    rw c.from_residual.ensures
    (record {
      words = (
        lines_full c.loop-line.invariant c.in-Some.ensures.answer full.0,
        full.1 ∙ c.loop-line.invariant.pending.size,
      );
    })

pub loop-line-smaller : goal.loop-line-smaller
loop-line-smaller c = line_shorter c.in-Some.ensures.answer

pub loop-line-preserved : goal.loop-line-preserved
loop-line-preserved c = lines_more c.loop-line.invariant c.in-Some.ensures.answer c.in_ok-total.ensures.words

pub returns : goal.returns
returns c = record { words = lines_done c.loop-line.invariant c.in_default.ensures.answer }
