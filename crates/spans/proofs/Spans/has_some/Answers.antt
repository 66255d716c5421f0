-- `Spans::has_some` meets its contract: a has a fact exactly if its span has a word. Assumes nothing.
use native.Mathlib.Omega.{arith}
use mathlib.Core.Bool.{not}
use lib.Dec.{eqb}
use lib.ListN.{length}
use Rattle.spans.proofs.Decided.{decides_as, decides_not, decides_eqb}
use Rattle.spans.proofs.SpanFacts.{first_none, first_stands}
use Rattle.spans.proofs.Spans.has_some.Goals as goal

pub returns : goal.returns
returns c =
    record {
      answer = let W = rw c.span_at.ensures.answer at c.from_span.ensures.words in
          let none = eqb (length c.from_span.result.now) 0 in
          rw c.is_empty.ensures (decides_as (not none) _ _
          (λ n. (_, first_stands c.args.self.now.indexed.words _ _ c.requires.kind c.requires.id W (omega (arith, n))))
          (λ q e. first_none c.args.self.now.indexed.words _ _ c.requires.kind c.requires.id W (omega arith) q.0 q.1)
          (decides_not none _ (decides_eqb (length c.from_span.result.now) 0)));
    }
