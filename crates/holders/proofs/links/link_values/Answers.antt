use native.Mathlib.Omega.{arith}
use lib.ListN.{length-set}
use Rattle.spans.specs.Spans.{at}
use Rattle.holders.proofs.Linking.{linking_none, linking_more, linking_end}
use Rattle.holders.proofs.Linking.{linking_place, linking_few, third_id, latest_within, place_within}
use Rattle.holders.proofs.links.link_values.Goals as goal

pub loop-at-init : goal.loop-at-init
loop-at-init c =
    linking_none c.requires.places c.requires.none _ _ _ _ c.word_of.ensures.answer
    c.word_of-2.ensures.answer c.place_of-from.ensures.answer c.place_of-end.ensures.answer

pub offset_bounds-table-at : goal.offset_bounds-table-at
offset_bounds-table-at c = omega (arith, linking_place c.loop-at.invariant c.loop-at-test.true)

pub bounds-table-at : goal.bounds-table-at
bounds-table-at c = omega (arith, linking_place c.loop-at.invariant c.loop-at-test.true)

pub latest_at-latest-requires : goal.latest_at-latest-requires
latest_at-latest-requires c =
    record { id = rw c.third_of.ensures.answer (third_id c.loop-at.invariant c.loop-at-test.true) }

pub offset_bounds-links-latest : goal.offset_bounds-links-latest
offset_bounds-links-latest c =
    let within = latest_within c.loop-at.invariant c.loop-at-test.true in
    omega (arith, within, c.loop-at.invariant.linkable.places, c.latest_at-latest.ensures.answer, c.third_of.ensures.answer)

pub bounds-links-latest : goal.bounds-links-latest
bounds-links-latest c =
    rw (c.latest_at-latest.ensures.answer, c.third_of.ensures.answer) (latest_within c.loop-at.invariant
    c.loop-at-test.true)

pub offset_bounds-links-at : goal.offset_bounds-links-at
offset_bounds-links-at c = omega (arith, linking_few c.loop-at.invariant c.loop-at-test.true)

pub bounds-links-at : goal.bounds-links-at
bounds-links-at c = place_within c.loop-at.invariant c.loop-at-test.true

pub overflow_cast-links : goal.overflow_cast-links
overflow_cast-links c = omega (arith, linking_few c.loop-at.invariant c.loop-at-test.true)

pub offset_bounds-links-latest-in-loop-at : goal.offset_bounds-links-latest-in-loop-at
offset_bounds-links-latest-in-loop-at c =
    let within = latest_within c.loop-at.invariant c.loop-at-test.true in
    omega (arith, within, c.loop-at.invariant.linkable.places, c.latest_at-latest.ensures.answer, c.third_of.ensures.answer)

pub bounds-links-latest-in-loop-at : goal.bounds-links-latest-in-loop-at
bounds-links-latest-in-loop-at c =
    rw (length-set c.loop-at.links c.loop-at.at (at c.loop-at.links c.latest_at-latest.result))
    (rw (c.latest_at-latest.ensures.answer, c.third_of.ensures.answer) (latest_within c.loop-at.invariant
    c.loop-at-test.true))

pub loop-at-preserved : goal.loop-at-preserved
loop-at-preserved c =
    rw (c.latest_at-latest.ensures.answer, c.third_of.ensures.answer) (linking_more c.loop-at.invariant
    c.loop-at-test.true)

pub returns : goal.returns
returns c = record { links = linking_end c.loop-at.invariant c.loop-at-test.false }
