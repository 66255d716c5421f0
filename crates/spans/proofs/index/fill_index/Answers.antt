use mathlib.Core.Path.{subst}
use native.Mathlib.Omega.{arith}
use Rattle.spans.proofs.Entered.{Entered, entered_none, entered_more, entered_all, next_is_span}
use Rattle.spans.proofs.index.fill_index.Goals as goal

pub loop-at-init : goal.loop-at-init
loop-at-init c = entered_none _ _ c.requires.words.spans c.requires.words.zeros

pub entry_of-requires : goal.entry_of-requires
entry_of-requires c =
    record { span = rw c.span_of.ensures.answer (next_is_span c.requires.words.words _ (omega arith) c.loop-at.invariant) }

pub loop-at-preserved : goal.loop-at-preserved
loop-at-preserved c =
    rw (c.entry_of.ensures.answer, c.span_of.ensures.answer)
    (entered_more c.requires.words.words _ (omega arith) c.loop-at.invariant)

pub returns : goal.returns
returns c =
    record { index = entered_all c.requires.words.words (subst (Entered _ _) (omega arith) c.loop-at.invariant) }
