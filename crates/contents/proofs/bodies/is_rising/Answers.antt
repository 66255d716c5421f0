use native.Mathlib.Omega.{arith}
use mathlib.Core.Path.{sym}
use Rattle.contents.proofs.Climbing.{climbed_start, climbed_more, climbed_broken, climbed_end}
use Rattle.contents.proofs.ImagePlaces.{contents_entry, contents_facts}
use Rattle.contents.proofs.bodies.is_rising.Goals as goal

pub loop-done-init : goal.loop-done-init
loop-done-init c = climbed_start _ _

pub start_at-from-requires : goal.start_at-from-requires
start_at-from-requires c =
    record { entry = contents_entry c.requires.contents _ (omega arith) (omega (arith, c.loop-done-test.true)) }

pub count_at-count-requires : goal.count_at-count-requires
count_at-count-requires c =
    record { entry = contents_entry c.requires.contents _ (omega arith) (omega (arith, c.loop-done-test.true)) }

pub rise_of-requires : goal.rise_of-requires
rise_of-requires c =
    record {
      facts = contents_facts c.requires.contents _ (omega arith) (omega (arith, c.loop-done-test.true)) _ _
          c.start_at-from.ensures.answer c.count_at-count.ensures.answer;
    }

pub returns-in_default : goal.returns-in_default
returns-in_default c =
    record {
      answer = sym (climbed_broken c.loop-done.invariant c.loop-done-test.true c.rise_of.result _ _
          c.start_at-from.ensures.answer c.count_at-count.ensures.answer c.rise_of.ensures.answer
          c.in_default.is);
    }

pub loop-done-preserved : goal.loop-done-preserved
loop-done-preserved c =
    climbed_more c.loop-done.invariant c.loop-done-test.true c.rise_of.result _ _ c.start_at-from.ensures.answer
    c.count_at-count.ensures.answer c.rise_of.ensures.answer _ c.in-Some.is
