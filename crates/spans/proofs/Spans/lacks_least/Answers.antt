-- `Spans::lacks_least` meets its contract. Assumes nothing.
use Rattle.spans.proofs.Decided.{decides_not}
use Rattle.spans.proofs.Spans.lacks_least.Goals as goal

pub returns : goal.returns
returns c = record { answer = decides_not c.has_least.result _ c.has_least.ensures.answer }
