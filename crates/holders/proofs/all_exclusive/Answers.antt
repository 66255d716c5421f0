-- `all_exclusive` meets its contract: rule E2 is about the words of exclusive properties and of values; where no property is
-- exclusive it is met. Assumes nothing.
use Rattle.spans.proofs.Decided.{decides_as}
use Rattle.holders.proofs.Exclusives.{held_exclusive, exclusive_held}
use Rattle.holders.proofs.all_exclusive.Goals as goal

pub returns-else-not-has_exclusive : goal.returns-else-not-has_exclusive
returns-else-not-has_exclusive c =
    record {
      answer = decides_as c.all_held_once.result _ _ (held_exclusive c.requires.words) (exclusive_held c.requires.words)
          c.all_held_once.ensures.answer;
    }
