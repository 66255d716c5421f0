-- `Spans::lacks_in_span` meets its contract. Assumes nothing.
use Rattle.spans.proofs.Decided.{decides_not}
use Rattle.spans.proofs.Spans.lacks_in_span.Goals as goal

pub returns : goal.returns
returns c = record { answer = decides_not c.has_in_span.result _ c.has_in_span.ensures.answer }
