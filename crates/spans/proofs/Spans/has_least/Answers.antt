-- `Spans::has_least` meets its contract: the fact's word is the least of its span, and so the first if it is there. Assumes
-- nothing.
use mathlib.Core.Path.{◌∙◌, ap}
use Rattle.spans.specs.Spans.{entry_of, at}
use Rattle.spans.proofs.SpanFacts.{least_decides}
use Rattle.spans.proofs.Spans.has_least.Goals as goal

pub returns : goal.returns
returns c =
    record {
      answer = let place = c.number_at-place.ensures.answer
          ∙ ap (at c.args.self.now.index.now) (c.entry_of.ensures.answer ∙ ap entry_of c.span_at.ensures.answer) in
          least_decides c.args.self.now.indexed _ _ _ _ c.requires.kind c.requires.id place c.word_of.ensures.answer
          c.is_at.result c.is_at.ensures.answer;
    }
