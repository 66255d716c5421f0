-- `length_checked`: the ends of the kinds, and the length by them. Assumes nothing.
use lib.Dec.{lit<}
use Rattle.writing.proofs.WriteCall.{table_writing, table_ready, table_length}
use Rattle.writing.proofs.length_checked.Goals as goal

pub find_ends-requires-clause-table : goal.find_ends-requires-clause-table
find_ends-requires-clause-table c = table_writing c.requires.table c.count_facts-count.result c.count_facts-count.ensures.answer

pub find_ends-requires-clause-room : goal.find_ends-requires-clause-room
find_ends-requires-clause-room c = lit< tt

pub image_length-requires : goal.image_length-requires
image_length-requires c =
    record { ends = table_ready c.requires.table c.count_facts-count.ensures.answer c.find_ends.ensures.ends }

pub returns : goal.returns
returns c =
    record {
      answer = table_length c.requires.table c.count_facts-count.ensures.answer c.find_ends.ensures.ends
          c.image_length.ensures.answer;
    }
