use mathlib.Core.Path.{◌∙◌, sym, refl, ap, subst}
use mathlib.Core.Bool.{not}
use native.Mathlib.Omega.{arith}
use Rattle.spans.specs.Spans.{span_of}
use Rattle.spans.proofs.Decided.{decided_met, decided_broken}
use Rattle.spans.proofs.SpanPlaces.{below_decides}
use Rattle.spans.proofs.Covering.{Covering, covering_none, covering_more, covering_past, covering_end}
use Rattle.spans.proofs.Covering.{from_at, from_within, from_end}
use Rattle.spans.proofs.Spans.is_covered.Goals as goal

pub loop-link-init : goal.loop-link-init
loop-link-init c =
    let W = c.from_span-links.ensures.words in (
      W,
      subst (λ m. Covering c.args.self.now.table.now c.args.span W.place c.args.base m c.args.from) (omega arith)
          (covering_none c.args.self.now.indexed.words _ _ _ _ W.start c.requires.span.place),
    )

pub returns-then-span_of-span : goal.returns-then-span_of-span
returns-then-span_of-span c =
    record {
      answer = covering_past c.args.self.now.indexed.words _ _ _ _ _ c.loop-link.invariant.1
          (λ e. c.if-span_of-span.true (c.span_of.ensures.answer ∙ ap span_of (from_at c.loop-link.invariant.0 c.loop-link.link-index) ∙ e));
    }

pub place_from-place-requires-clause-place : goal.place_from-place-requires-clause-place
place_from-place-requires-clause-place c =
    let W = c.loop-link.invariant.0 in record {
      within = c.loop-link.invariant.1.within;
      before = rw (c.second_of.ensures.answer, from_at W c.loop-link.link-index)
          (c.loop-link.invariant.1.next (from_within W _ (omega arith))
          (sym (ap span_of (from_at W c.loop-link.link-index)) ∙ sym c.span_of.ensures.answer ∙ c.if-span_of-span.false));
    }

pub returns-then-not-is_at : goal.returns-then-not-is_at
returns-then-not-is_at c =
    record {
      answer = let W = c.loop-link.invariant.0 in
          let among = below_decides c.args.self.now.indexed.words _ _ c.place_from-place.ensures.answer c.is_at.result c.is_at.ensures.answer in
          λ covered. decided_broken c.is_at.result _ among (ap not c.if-not-is_at.true)
          (rw (c.second_of.ensures.answer, from_at W c.loop-link.link-index) (covered _ (from_within W _ (omega arith))
          (sym (ap span_of (from_at W c.loop-link.link-index)) ∙ sym c.span_of.ensures.answer ∙ c.if-span_of-span.false)));
    }

pub loop-link-preserved : goal.loop-link-preserved
loop-link-preserved c =
    let W = c.loop-link.invariant.0 in
    let among = below_decides c.args.self.now.indexed.words _ _ c.place_from-place.ensures.answer c.is_at.result c.is_at.ensures.answer in (
      W,
      subst (λ m. Covering c.args.self.now.table.now c.args.span W.place c.args.base m c.place_from-place.result) (omega arith)
          (covering_more c.args.self.now.indexed.words _ _ _ _ _ c.loop-link.invariant.1 _ _ (from_within W _ (omega arith))
          (sym (ap span_of (from_at W c.loop-link.link-index)) ∙ sym c.span_of.ensures.answer ∙ c.if-span_of-span.false)
          (rw (c.second_of.ensures.answer, from_at W c.loop-link.link-index) refl)
          c.place_from-place.ensures.answer (decided_met c.is_at.result _ among (ap not c.if-not-is_at.false))),
    )

pub returns : goal.returns
returns c =
    record {
      answer = covering_end c.args.self.now.indexed.words _ _ _ _ _ c.loop-link.invariant.1 (from_end c.loop-link.invariant.0 _ (omega arith));
    }
