use Prim.Native.Nat.{◌<◌}
use native.Mathlib.Omega.{arith}
use lib.ListN.{length}
use Rattle.spans.proofs.Decided.{decided_met, decided_broken}
use Rattle.spans.proofs.Passed.{passed_none, passed_end}
use Rattle.spans.proofs.Inheriting.{inheriting_none, inheriting_first, inheriting_more}
use Rattle.spans.proofs.Inheriting.{each_inherits, inherits_each}
use mathlib.Core.Path.{ap}
use mathlib.Core.Bool.{not}
use Rattle.spans.proofs.Spans.all_inherited.Goals as goal

pub loop-at-init : goal.loop-at-init
loop-at-init c =
    inheriting_none _ _ (passed_none _ _ _ _ _ _ c.word_of.ensures.answer
    c.word_of-2.ensures.answer c.place_of-from.ensures.answer c.place_of-end.ensures.answer)
    (rw c.word_of.ensures.answer at c.place_of-from.ensures.answer.before)

pub group_start-group-requires : goal.group_start-group-requires
group_start-group-requires c =
    record {
      group = record {
        words = c.args.self.now.indexed.words;
        here = omega (arith, c.loop-at.invariant.passed.within);
        within = c.loop-at.invariant.within;
        last = c.loop-at.invariant.group;
        first = inheriting_first c.loop-at.invariant c.loop-at-test.true;
      };
    }

pub returns-then-not-is_inherited : goal.returns-then-not-is_inherited
returns-then-not-is_inherited c =
    record {
      answer = let within : c.loop-at.at < length c.args.self.now.table.now = omega (arith, c.loop-at.invariant.passed.within) in
          λ met. decided_broken c.is_inherited.result _ c.is_inherited.ensures.answer (ap not c.if-not-is_inherited.true)
          (inherits_each c.args.self.now.indexed.words met c.loop-at.at within (c.loop-at.invariant.passed.left c.loop-at.at (omega arith) c.loop-at-test.true));
    }

pub loop-at-preserved : goal.loop-at-preserved
loop-at-preserved c =
    inheriting_more c.loop-at.invariant c.loop-at-test.true _ c.group_start-group.ensures.answer
    (decided_met c.is_inherited.result _ c.is_inherited.ensures.answer (ap not c.if-not-is_inherited.false))

pub returns : goal.returns
returns c =
    record { answer = each_inherits c.args.self.now.table.now (passed_end _ _ _ _ c.loop-at.invariant.passed c.loop-at-test.false) }
