use Rattle.std.proofs.Common.{ap, ◌∙◌, Some}
use Rattle.report.proofs.Going.{going_start, going_more, going_last}
use Rattle.report.proofs.turns.run_input.Goals as goal

pub loop-init : goal.loop-init
loop-init g c = going_start _ _ _ c.requires.lent

pub run_chunk-requires : goal.run_chunk-requires
run_chunk-requires g c = record { lent = c.loop.invariant.lent }

pub loop-preserved : goal.loop-preserved
loop-preserved g c =
    going_more c.loop.invariant c.run_chunk.result _ _ _ (c.in-Some-More.is ∙ ap Some c.in-Some-More.field-0-is) c.run_chunk.ensures.turn
    c.run_chunk.auto.table c.run_chunk.auto.bytes c.run_chunk.auto.out

pub returns-in-Some-Last : goal.returns-in-Some-Last
returns-in-Some-Last g c =
    record {
      turns = going_last c.loop.invariant c.run_chunk.result _ _ _ _ (c.in-Some-Last.is ∙ ap Some c.in-Some-Last.field-0-is)
          c.run_chunk.ensures.turn c.run_chunk.auto.bytes;
    }
