-- `Spans::from_span` meets its contract: the index has the place, and the word there tells whether it is the span's. Assumes
-- nothing.
use mathlib.Core.Path.{◌∙◌, ap}
use native.Mathlib.Omega.{arith}
use lib.ListN.{length}
use Rattle.spans.specs.Spans.{at}
use Rattle.spans.proofs.Covering.{start_none, none_left}
use Rattle.spans.proofs.Spans.from_span.Goals as goal
use Rattle.spans.proofs.Spans.from_span.Goals.{else-place-self-via-then-place-self+else-span_of-span}
use Rattle.spans.proofs.Spans.from_span.Goals.{else-place-self-via-else-place-self}

pub returns : goal.returns
returns c =
    record {
      words = let place = c.number_at-place.ensures.answer
          ∙ ap (at c.args.self.now.index.now) c.entry_of.ensures.answer in
          record {
            place = length c.args.self.now.table.now;
            start = start_none c.args.self.now.indexed _ c.requires.span _ place (λ l e. elim c.else-place-self.branch [
              | else-place-self-via-then-place-self+else-span_of-span w ↦ w.if-span_of-span.false (w.span_of.ensures.answer ∙ e)
              | else-place-self-via-else-place-self w ↦ omega arith
            ]);
            rest = none_left c.args.self.now.table.now;
          };
    }
