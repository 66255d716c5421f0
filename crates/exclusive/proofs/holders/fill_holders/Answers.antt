use mathlib.Core.Path.{sym, ap, subst, ◌∙◌}
use native.Mathlib.Omega.{arith}
use lib.Dec.{T}
use lib.ListN.{set}
use Rattle.exclusive.proofs.KindWords.{KindWords, place_allowed}
use Rattle.exclusive.proofs.HolderLaws.{noted_miss, noted_hit, noted_clash, noted_done}
use Rattle.exclusive.proofs.holders.fill_holders.Goals as goal
use Rattle.exclusive.proofs.holders.fill_holders.Goals.{then-third_of-p+else-is_other, else-third_of-p}

pub returns-then-is_other : goal.returns-then-is_other
returns-then-is_other c =
    let words : KindWords c.args.facts.now 10 c.words_of-word-items.result.now =
    record { full = c.requires.facts; all = c.words_of-word-items.ensures.words } in
    record {
      answer = record {
        two = λ _. noted_clash c.loop-word.invariant (sym c.third_of.ensures.answer ∙ c.if-third_of-p.true)
            c.first_of-x.ensures.answer (c.place-y.ensures.answer ∙ c.second_of.ensures.answer) words c.loop-word-test.true
            c.if-is_other.ensures.answer;
        one = λ e. absurd (subst T e tt);
      };
    }

pub holder_of-requires : goal.holder_of-requires
holder_of-requires c =
    let words : KindWords c.args.facts.now 10 c.words_of-word-items.result.now =
    record { full = c.requires.facts; all = c.words_of-word-items.ensures.words } in
    record { id = omega (arith, c.first_of-x.ensures.answer, (place_allowed words c.loop-word-test.true).first) }

pub loop-word-preserved : goal.loop-word-preserved
loop-word-preserved c =
    elim c.if-third_of-p.branch [
      | then-third_of-p+else-is_other w ↦
          noted_hit c.loop-word.invariant (sym c.third_of.ensures.answer ∙ w.if-third_of-p.true) w.first_of-x.ensures.answer
          (w.place-y.ensures.answer ∙ w.second_of.ensures.answer)
          (omega (arith, w.place-y.ensures.answer, w.second_of.ensures.answer, c.requires.holders.whole))
          w.if-is_other.ensures.answer (w.holders-is ∙ ap (set c.loop-word.holders w.place-y.result) w.holder_of.ensures.answer)
      | else-third_of-p w ↦
          noted_miss c.loop-word.invariant (λ e. w.if-third_of-p.false (c.third_of.ensures.answer ∙ e)) w.holders-is
    ]

pub returns : goal.returns
returns c =
    let words : KindWords c.args.facts.now 10 c.words_of-word-items.result.now =
    record { full = c.requires.facts; all = c.words_of-word-items.ensures.words } in
    record {
      answer = record {
        two = λ e. absurd (subst T (sym e) tt);
        one = λ _. noted_done c.loop-word.invariant words (omega arith) (omega arith);
      };
    }
