use mathlib.Core.Path.{sym, ap, subst, ◌∙◌}
use native.Mathlib.Omega.{arith}
use lib.Dec.{T}
use Rattle.flags.specs.Flags.{flagged}
use Rattle.exclusive.proofs.KindWords.{KindWords}
use Rattle.exclusive.proofs.HolderLaws.{unshared_other, unshared_more, held_at, unshared_done}
use Rattle.exclusive.proofs.holders.is_held.Goals as goal
use Rattle.exclusive.proofs.holders.is_held.Goals.{then-flags-place+else-is_other, else-flags-place}

pub returns-then-is_other : goal.returns-then-is_other
returns-then-is_other c =
    let words : KindWords c.args.facts.now 10 c.words_of-word-items.result.now =
    record { full = c.requires.facts; all = c.words_of-word-items.ensures.words } in
    record {
      answer = held_at c.first_of.ensures.answer (c.place-then-flags-place.ensures.answer ∙ c.second_of.ensures.answer)
          words c.loop-word-test.true
          (subst T (sym (ap (flagged c.args.flags.now) (sym (c.place.ensures.answer ∙ c.third_of.ensures.answer))
          ∙ c.if-flags-place.true)) tt) c.if-is_other.ensures.answer;
    }

pub loop-word-preserved : goal.loop-word-preserved
loop-word-preserved c =
    elim c.if-flags-place.branch [
      | then-flags-place+else-is_other w ↦ unshared_more w.first_of.ensures.answer
          (w.place-then-flags-place.ensures.answer ∙ w.second_of.ensures.answer) c.loop-word.invariant w.if-is_other.ensures.answer
      | else-flags-place w ↦ unshared_other c.loop-word.invariant (λ f. subst T (ap (flagged c.args.flags.now)
          (sym (c.place.ensures.answer ∙ c.third_of.ensures.answer)) ∙ w.if-flags-place.false) f)
    ]

pub returns : goal.returns
returns c =
    let words : KindWords c.args.facts.now 10 c.words_of-word-items.result.now =
    record { full = c.requires.facts; all = c.words_of-word-items.ensures.words } in
    record { answer = unshared_done c.loop-word.invariant words (omega arith) }
