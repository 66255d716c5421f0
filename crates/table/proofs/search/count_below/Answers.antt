-- `search::count_below`: the test of each word is whether it is below. Assumes nothing.
use borrow.Author.Rules.{rules}
use Rattle.table.specs.Found.{below}
use Rattle.table.proofs.Below.{below_within, below_turns}
use Rattle.table.proofs.search.count_below.Goals as goal

pub returns : goal.returns
returns c = record {
  answer = c.count_before.ensures.count (below c.args.words.now c.args.word) (below_within c.args.word c.args.words.now)
      (λ k r h p. below_turns c.args.words.now c.args.word c.requires.words k r h (search rules));
}
