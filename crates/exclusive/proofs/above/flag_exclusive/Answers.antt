use mathlib.Core.Path.{sym, ◌∙◌}
use native.Mathlib.Omega.{arith}
use Rattle.exclusive.proofs.KindWords.{KindWords}
use Rattle.exclusive.proofs.AboveFlags.{flagging_hit, flagging_miss, flagging_says, flagging_any}
use Rattle.exclusive.proofs.above.flag_exclusive.Goals as goal
use Rattle.exclusive.proofs.above.flag_exclusive.Goals.{then-is_under, else-is_under}

pub loop-word-preserved : goal.loop-word-preserved
loop-word-preserved c =
    let words : KindWords c.args.facts.now 11 c.words_of-word-items.result.now =
    record { full = c.requires.facts.full; all = c.words_of-word-items.ensures.words } in
    elim c.if-is_under.branch [
      | then-is_under w ↦ flagging_hit words c.loop-word-test.true c.first_of-x.ensures.answer c.loop-word.invariant
          (omega (arith, c.first_of-x.ensures.answer, c.loop-word.invariant.same, c.requires.facts.whole))
          (sym c.is_under.ensures.answer ∙ w.if-is_under.true) w.place.ensures.answer w.flags-is w.some-is
      | else-is_under w ↦ flagging_miss words c.loop-word-test.true c.first_of-x.ensures.answer c.loop-word.invariant
          (sym c.is_under.ensures.answer ∙ w.if-is_under.false) w.flags-is w.some-is
    ]

pub returns-clause-flags : goal.returns-clause-flags
returns-clause-flags c =
    let words : KindWords c.args.facts.now 11 c.words_of-word-items.result.now =
    record { full = c.requires.facts.full; all = c.words_of-word-items.ensures.words } in
    flagging_says words c.loop-word.invariant (omega arith) (omega arith)

pub returns-clause-answer : goal.returns-clause-answer
returns-clause-answer c =
    let words : KindWords c.args.facts.now 11 c.words_of-word-items.result.now =
    record { full = c.requires.facts.full; all = c.words_of-word-items.ensures.words } in
    flagging_any words c.loop-word.invariant (omega arith) (omega arith)
