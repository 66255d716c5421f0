use native.Mathlib.Omega.{arith}
use mathlib.Core.Path.{sym, ◌∙◌}
use Rattle.contents.proofs.Climbing.{climb_start, climb_more, climb_low, climb_no_fact, climb_end}
use Rattle.contents.proofs.ImagePlaces.{fact_within}
use Rattle.contents.proofs.bodies.rise_of.Goals as goal
use Rattle.contents.proofs.bodies.rise_of.Goals.{
  then-word-top-via-then-word-top,
  then-word-top-via-else-word-top+then-not-is_fact,
}

pub loop-passed-init : goal.loop-passed-init
loop-passed-init c = climb_start _ _ _ _ _ _

pub word_at-word-requires : goal.word_at-word-requires
word_at-word-requires c =
    record { fact = fact_within c.requires.facts _ _ c.loop-passed.invariant.place c.loop-passed-test.true }

pub returns-then-word-top : goal.returns-then-word-top
returns-then-word-top c =
    record {
      answer = elim c.then-word-top.branch [
        | then-word-top-via-then-word-top w ↦
            climb_low _ _ _ c.loop-passed.invariant c.loop-passed-test.true _ c.word_at-word.ensures.answer
            w.if-word-top.true
        | then-word-top-via-else-word-top+then-not-is_fact w ↦
            climb_no_fact _ _ _ c.loop-passed.invariant c.loop-passed-test.true _ c.word_at-word.ensures.answer
            (sym w.is_fact.ensures.answer ∙ w.if-not-is_fact.true)
      ];
    }

pub overflow_add-place : goal.overflow_add-place
overflow_add-place c =
    let next = fact_within c.requires.facts _ _ c.loop-passed.invariant.place c.loop-passed-test.true in
    omega (arith, c.fact_size-size.ensures.answer, next.within)

pub loop-passed-preserved : goal.loop-passed-preserved
loop-passed-preserved c =
    climb_more _ _ _ c.loop-passed.invariant c.loop-passed-test.true _ c.word_at-word.ensures.answer c.if-word-top.false
    (sym c.is_fact.ensures.answer ∙ c.if-not-is_fact.false) _
    c.fact_size-size.ensures.answer

pub returns : goal.returns
returns c = record { answer = climb_end _ _ _ c.loop-passed.invariant c.loop-passed-test.false }
