use Rattle.rules.proofs.Passing.{gives_at, passing_none, passing_more, passing_broken, passing_end}
use Rattle.rules.proofs.each.all_meet.Goals as goal

pub loop-word-init : goal.loop-word-init
loop-word-init g c = passing_none (goal.F-post g c.args.test) c.words_of_kind-words.ensures.words

pub returns-then-not-test : goal.returns-then-not-test
returns-then-not-test g c =
    record {
      answer = passing_broken c.loop-word.invariant c.loop-word-test.true
          (gives_at (goal.F-post g c.args.test) _ c.first_of.ensures.answer c.second_of.ensures.answer c.third_of.ensures.answer
          c.if-not-test.true c.test.ensures);
    }

pub loop-word-preserved : goal.loop-word-preserved
loop-word-preserved g c =
    passing_more c.loop-word.invariant
    (gives_at (goal.F-post g c.args.test) _ c.first_of.ensures.answer c.second_of.ensures.answer c.third_of.ensures.answer
    c.if-not-test.false c.test.ensures)

pub returns : goal.returns
returns g c = record { answer = passing_end c.loop-word.invariant c.loop-word-test.false }
