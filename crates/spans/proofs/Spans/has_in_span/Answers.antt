-- `Spans::has_in_span` meets its contract: the fact stands exactly if its word is there. Assumes nothing.
use mathlib.Core.Path.{subst, sym}
use native.Mathlib.Omega.{arith}
use Rattle.spans.specs.Spans.{Has}
use Rattle.spans.proofs.Decided.{decides_as}
use Rattle.spans.proofs.Spans.has_in_span.Goals as goal

pub returns : goal.returns
returns c =
    record {
      answer = decides_as c.is_among.result _ _
          (λ h. (
            (c.requires.ids.0, c.requires.ids.1, omega arith),
            subst (Has c.args.self.now.table.now)
                c.word_of.ensures.answer h,
          ))
          (λ h. subst (Has c.args.self.now.table.now) (sym c.word_of.ensures.answer) h.1)
          c.is_among.ensures.answer;
    }
