-- `layout::count_facts`: the test of each word is whether it is no zero. Assumes nothing.
use borrow.Author.Rules.{rules}
use lib.ListN.{length}
use Rattle.rdfs.specs.Numbers.{product}
use Rattle.rdfs.specs.Words.{filled}
use Rattle.table.proofs.Filled.{filled_within, filled_turns}
use Rattle.table.proofs.layout.count_facts.Goals as goal

pub returns : goal.returns
returns c = record {
  answer = c.count_before.ensures.count (length (filled c.args.table.now)) (filled_within product c.args.table.now c.requires.laid)
      (λ k r h p. filled_turns product c.args.table.now c.requires.laid k r (search rules));
}
