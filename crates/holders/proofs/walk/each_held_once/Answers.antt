use mathlib.Core.Path.{ap}
use mathlib.Core.Bool.{not}
use native.Mathlib.Omega.{arith}
use Rattle.spans.proofs.Decided.{decided_met, decided_broken}
use Rattle.spans.proofs.KindWords.{of_each}
use Rattle.holders.specs.Values.{HeldOnce}
use Rattle.holders.proofs.Exclusives.{judging_none, judging_more, judging_end}
use Rattle.holders.proofs.walk.each_held_once.Goals as goal

pub loop-property-init : goal.loop-property-init
loop-property-init c = judging_none _ _ c.words_of_kind-properties.ensures.words c.requires.ids c.requires.zeros

pub returns-then-not-is_held_once : goal.returns-then-not-is_held_once
returns-then-not-is_held_once c =
    record {
      answer = let answer = rw c.first_of.ensures.answer at c.is_held_once.ensures.answer in
          λ held. decided_broken c.is_held_once.result _ answer (ap not c.if-not-is_held_once.true)
          (of_each c.loop-property.invariant.kind (λ x y z. HeldOnce c.args.table.now x) held _ (omega arith));
    }

pub loop-property-preserved : goal.loop-property-preserved
loop-property-preserved c =
    let answer = rw c.first_of.ensures.answer at c.is_held_once.ensures.answer in
    let stamps = rw c.first_of.ensures.answer at c.is_held_once.ensures.stamps in
    judging_more c.loop-property.invariant _ (omega arith)
    (decided_met c.is_held_once.result _ answer (ap not c.if-not-is_held_once.false)) c.is_held_once.auto.seen stamps

pub returns : goal.returns
returns c = record { answer = judging_end c.loop-property.invariant (omega arith) }
