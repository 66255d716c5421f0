-- `Spans::only_second` meets its contract: the span's first word has it. Assumes nothing.
use Rattle.spans.proofs.SpanFacts.{first_only}
use Rattle.spans.proofs.Spans.only_second.Goals as goal

pub returns-in-len1-up : goal.returns-in-len1-up
returns-in-len1-up c =
    record {
      answer = let W = rw c.span_at.ensures.answer at c.from_span.ensures.words in
          rw c.second_of.ensures.answer (first_only c.args.self.now.indexed.words _ _ c.requires.kind c.requires.id W c.requires.single
          c.in-len1-up.len_at_least);
    }
