-- `count_indexed` meets its contract: the rules before E2 are visited with the index of the words. Assumes nothing.
use mathlib.Core.Path.{refl}
use native.Mathlib.Nat.{le_trans}
use lib.Dec.{lit≤}
use Rattle.spans.specs.Spans.{span_count}
use Rattle.spans.proofs.Entered.{zeros_at}
use Rattle.consistency.proofs.count_indexed.Goals as goal

pub new-requires-clause-words : goal.new-requires-clause-words
new-requires-clause-words c =
    record {
      words = c.requires.words;
      few = le_trans c.requires.few (lit≤ tt);
      spans = refl;
      zeros = zeros_at span_count;
    }
