use mathlib.Core.Path.{◌∙◌, sym, ap, subst}
use native.Mathlib.Omega.{arith}
use Prim.Native.Nat.{◌+◌}
use lib.ListN.{set}
use Rattle.table.specs.Parts.{second_of}
use Rattle.spans.specs.Spans.{span_of, at}
use Rattle.spans.proofs.Covering.{from_at, from_within, from_end}
use Rattle.spans.proofs.Stamping.{Stamping, stamping_none, stamping_more, stamping_past, stamping_end}
use Rattle.spans.proofs.Spans.stamp_span.Goals as goal

pub loop-word-init : goal.loop-word-init
loop-word-init c =
    let W = c.from_span-words.ensures.words in (
      W,
      subst (λ m. Stamping c.args.self.now.table.now c.args.stamps.now c.args.span W.place m) (omega arith)
          (stamping_none c.args.self.now.indexed.words _ _ _ W.start c.requires.span.ids c.requires.lower),
    )

pub returns-then-span_of-span : goal.returns-then-span_of-span
returns-then-span_of-span c =
    record {
      stamps = stamping_past c.args.self.now.indexed.words _ _ _ c.loop-word.invariant.1
          (λ e. c.if-span_of-span.true (c.span_of.ensures.answer ∙ ap span_of (from_at c.loop-word.invariant.0 c.loop-word.word-index) ∙ e));
    }

pub loop-word-preserved : goal.loop-word-preserved
loop-word-preserved c =
    let W = c.loop-word.invariant.0 in
    let i = W.place + c.loop-word.word-index in (
      W,
      rw (
        c.place.ensures.answer,
        c.second_of.ensures.answer,
        c.stamp_of.ensures.answer,
        from_at W c.loop-word.word-index,
      )
          (subst
          (λ m. Stamping c.args.self.now.table.now (set c.loop-word.stamps (second_of (at c.args.self.now.table.now i)) c.args.span) c.args.span W.place m)
          (omega arith)
          (stamping_more c.args.self.now.indexed.words _ _ i c.loop-word.invariant.1 (from_within W _ (omega arith))
          (sym (ap span_of (from_at W c.loop-word.word-index)) ∙ sym c.span_of.ensures.answer ∙ c.if-span_of-span.false))),
    )

pub returns : goal.returns
returns c =
    record { stamps = stamping_end c.args.self.now.indexed.words _ _ _ c.loop-word.invariant.1 (from_end c.loop-word.invariant.0 _ (omega arith)) }
