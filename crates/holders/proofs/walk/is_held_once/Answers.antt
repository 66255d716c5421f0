use Prim.Native.Nat.{◌-◌}
use native.Mathlib.Omega.{arith}
use Rattle.holders.proofs.Walking.{walking_start, walking_more, walking_twice, walking_end}
use Rattle.holders.proofs.Walking.{walking_place, value_within}
use Rattle.holders.proofs.walk.is_held_once.Goals as goal

pub loop-link-init : goal.loop-link-init
loop-link-init c =
    walking_start _ _ (rw (c.number_at-link.ensures.answer, c.latest_at.ensures.answer) (c.requires.links.linked.last c.args.z))
    c.requires.links.ids c.requires.links.lower

pub offset_bounds-table-link : goal.offset_bounds-table-link
offset_bounds-table-link c =
    omega (arith, walking_place c.loop-link.invariant (omega arith), c.requires.links.linked.linkable.few)

pub bounds-table-link : goal.bounds-table-link
bounds-table-link c = walking_place c.loop-link.invariant (omega arith)

pub offset_bounds-seen-y : goal.offset_bounds-seen-y
offset_bounds-seen-y c =
    let within = value_within c.loop-link.invariant c.requires.links.linked.linkable.words (omega arith) in
    omega (arith, c.value_of-y.ensures.answer, within, c.loop-link.invariant.ids)

pub bounds-seen-y : goal.bounds-seen-y
bounds-seen-y c =
    rw c.value_of-y.ensures.answer (value_within c.loop-link.invariant c.requires.links.linked.linkable.words (omega arith))

pub returns-then-seen-y : goal.returns-then-seen-y
returns-then-seen-y c =
    let stamped = rw (c.value_of-y.ensures.answer, c.stamp_of-stamp.ensures.answer) at c.if-seen-y.true in record {
      answer = walking_twice c.loop-link.invariant (omega arith) stamped;
      stamps = c.loop-link.invariant.most;
    }

pub offset_bounds-seen-y-in-loop-link : goal.offset_bounds-seen-y-in-loop-link
offset_bounds-seen-y-in-loop-link c =
    let within = value_within c.loop-link.invariant c.requires.links.linked.linkable.words (omega arith) in
    omega (arith, c.value_of-y.ensures.answer, within, c.loop-link.invariant.ids)

pub bounds-seen-y-in-loop-link : goal.bounds-seen-y-in-loop-link
bounds-seen-y-in-loop-link c =
    rw c.value_of-y.ensures.answer (value_within c.loop-link.invariant c.requires.links.linked.linkable.words (omega arith))

pub number_at-link-requires-in-loop-link : goal.number_at-link-requires-in-loop-link
number_at-link-requires-in-loop-link c =
    record {
      place = omega (
        arith,
        walking_place c.loop-link.invariant (omega arith),
        c.requires.links.linked.linkable.few,
        c.requires.links.linked.linkable.places,
      );
    }

pub loop-link-preserved : goal.loop-link-preserved
loop-link-preserved c =
    let next = c.requires.links.linked.next c.args.z (c.loop-link.link - 1) (c.loop-link.invariant.here (omega arith)) in
    rw (c.value_of-y.ensures.answer, c.stamp_of-stamp.ensures.answer, c.number_at-link-in-loop-link.ensures.answer)
    (walking_more c.loop-link.invariant c.requires.links.linked.linkable.words _ (omega arith) next
    (λ e. c.if-seen-y.false (rw (c.value_of-y.ensures.answer, c.stamp_of-stamp.ensures.answer) e)))

pub returns-clause-answer : goal.returns-clause-answer
returns-clause-answer c = walking_end c.loop-link.invariant (omega arith)
