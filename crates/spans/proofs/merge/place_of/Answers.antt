-- `merge::place_of` meets its contract: the words below the word come first. Assumes nothing.
use borrow.Author.Rules.{rules}
use lib.Dec.{ltb}
use Rattle.std.proofs.lemmas.List.Sorted.{IsPartitionPoint-from_clause}
use Rattle.spans.proofs.SpanPlaces.{partitioned, below_point}
use Rattle.spans.proofs.merge.place_of.Goals as goal

pub returns : goal.returns
returns c =
    record {
      answer = below_point c.requires.words c.args.word _ c.partition_point.ensures.bound
          (IsPartitionPoint-from_clause (λ y. ltb y c.args.word) c.args.table.now _ c.partition_point.ensures.partitioned
          (partitioned c.requires.words c.args.word) (λ a r f' k. search rules));
    }
