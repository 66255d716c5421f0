-- `lookup`: the refusals, then the search among the facts. Assumes nothing.
use mathlib.Core.Path.{sym, ap, ◌∙◌}
use Rattle.rdfs.specs.Lists.{member}
use Rattle.table.specs.Counted.{Counted}
use Rattle.table.proofs.CountedLaws.{counted_first}
use Rattle.table.proofs.CutTable.{cut_length, cut_ascending}
use Rattle.table.proofs.TableRefusals.{taken_laid}
use Rattle.table_calls.proofs.CallCases.{present_taken}
use Rattle.table_calls.proofs.lookup.Goals as goal
use Rattle.table_calls.proofs.lookup.Goals.{After-count_facts-count}

-- The table is laid out, and the count that of its facts.
counted : (c : After-count_facts-count) → Counted c.args.table.now c.count_facts-count.result
counted c = record {
  laid = taken_laid c.args.table.now (sym c.in_ok-check_layout.ensures.answer);
  size = c.count_facts-count.ensures.answer;
}

pub slice_bounds-has_word-end : goal.slice_bounds-has_word-end
slice_bounds-has_word-end c = cut_length (counted c)

pub has_word-requires : goal.has_word-requires
has_word-requires c = record { words = cut_ascending (counted c) }

pub returns-clause-present : goal.returns-clause-present
returns-clause-present c = c.has_word.ensures.answer
    ∙ (ap (λ l. member l c.args.word) (counted_first (counted (goal.at.returns-clause-present c).After-count_facts-count))
    ∙ sym (present_taken c.args.table.now c.args.word (sym c.in_ok-check_layout.ensures.answer)))
