-- `besides::is_missing`: the tables are cut to their facts. Assumes nothing.
use mathlib.Core.Path.{refl, sym, ap, ◌∙◌}
use lib.Seq.{length-take-le}
use Rattle.rdfs.specs.Lists.{same_list}
use Rattle.differences.proofs.Missings.{missing_within, missing_other_within, missing_is, missing_measured}
use Rattle.differences.proofs.besides.is_missing.Goals as goal

pub slice_bounds-is_besides-end : goal.slice_bounds-is_besides-end
slice_bounds-is_besides-end c =
    sym (length-take-le _ _ (missing_within c.requires.tables c.count_facts-count.ensures.answer
    c.count_facts-others.ensures.answer))

pub slice_bounds-is_besides-end-2 : goal.slice_bounds-is_besides-end-2
slice_bounds-is_besides-end-2 c =
    sym (length-take-le _ _
    (missing_other_within c.requires.tables c.count_facts-count.ensures.answer c.count_facts-others.ensures.answer))

pub is_besides-requires : goal.is_besides-requires
is_besides-requires c =
    record {
      lists = missing_measured c.requires.tables c.count_facts-count.ensures.answer c.count_facts-others.ensures.answer refl;
    }

pub returns : goal.returns
returns c =
    record {
      answer = c.is_besides.ensures.answer
          ∙ ap (same_list c.args.run.now)
          (missing_is c.requires.tables c.count_facts-count.ensures.answer c.count_facts-others.ensures.answer);
    }
