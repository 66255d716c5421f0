-- `is_current`: a run of another length. Assumes nothing.
use Rattle.rdfs.specs.Lists.{same_list}
use Rattle.differences.specs.Besides.{missing}
use Rattle.preview.proofs.Trials.{other_length, first_differs, second_differs}
use Rattle.preview.proofs.is_current.Goals as goal
use Rattle.preview.proofs.is_current.Goals.{
  then-added-applied-via-then-added-applied,
  then-added-applied-via-else-added-applied+then-removed-applied,
}

pub returns-then-added-applied : goal.returns-then-added-applied
returns-then-added-applied c =
    record {
      answer = elim c.then-added-applied.branch [
        | then-added-applied-via-then-added-applied w ↦ first_differs _ _
            (other_length c.args.added.now c.requires.tables.came w.if-added-applied.true)
        | then-added-applied-via-else-added-applied+then-removed-applied w ↦ second_differs
            (same_list c.args.added.now (missing c.args.new.now c.args.old.now)) _
            (other_length c.args.removed.now c.requires.tables.went w.if-removed-applied.true)
      ];
    }
