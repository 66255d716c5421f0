-- `besides::put_missing`: the tables are cut to their facts. Assumes nothing.
use mathlib.Core.Path.{refl, sym, ◌∙◌}
use lib.Seq.{length-take-le}
use Rattle.differences.proofs.Missings.{missing_within, missing_other_within, missing_is, missing_measured}
use Rattle.differences.proofs.besides.put_missing.Goals as goal

pub slice_bounds-put_besides-end : goal.slice_bounds-put_besides-end
slice_bounds-put_besides-end c =
    sym (length-take-le _ _ (missing_within c.requires.tables c.count_facts-count.ensures.answer
    c.count_facts-others.ensures.answer))

pub slice_bounds-put_besides-end-2 : goal.slice_bounds-put_besides-end-2
slice_bounds-put_besides-end-2 c =
    sym (length-take-le _ _
    (missing_other_within c.requires.tables c.count_facts-count.ensures.answer c.count_facts-others.ensures.answer))

pub put_besides-requires : goal.put_besides-requires
put_besides-requires c =
    record {
      lists = missing_measured c.requires.tables c.count_facts-count.ensures.answer c.count_facts-others.ensures.answer refl;
    }

pub returns : goal.returns
returns c =
    record {
      words = c.put_besides.ensures.words
          ∙ missing_is c.requires.tables c.count_facts-count.ensures.answer c.count_facts-others.ensures.answer;
    }
