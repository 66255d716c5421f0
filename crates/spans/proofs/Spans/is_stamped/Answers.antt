use mathlib.Core.Path.{◌≡◌, ◌∙◌, sym, ap, subst}
use native.Mathlib.Omega.{arith}
use Prim.Native.Nat.{◌+◌}
use Rattle.table.specs.Parts.{second_of}
use Rattle.spans.specs.Spans.{span_of, at}
use Rattle.spans.proofs.Covering.{from_at, from_within, from_end}
use Rattle.spans.proofs.Stamping.{id_within}
use Rattle.spans.proofs.Comparing.{Comparing, comparing_none, comparing_more, comparing_past, comparing_end}
use Rattle.spans.proofs.Spans.is_stamped.Goals as goal
use Rattle.spans.proofs.Spans.is_stamped.Goals.{After-number_at}

pub loop-word-init : goal.loop-word-init
loop-word-init c =
    let W = c.from_span-words.ensures.words in (
      W,
      subst (λ m. Comparing c.args.self.now.table.now c.args.stamps.now c.args.stamp c.args.span W.place m) (omega arith)
          (comparing_none c.args.self.now.indexed.words _ _ _ _ W.start),
    )

pub returns-then-span_of-span : goal.returns-then-span_of-span
returns-then-span_of-span c =
    record {
      answer = comparing_past c.args.self.now.indexed.words _ _ _ _ _ c.loop-word.invariant.1
          (λ e. c.if-span_of-span.true (c.span_of.ensures.answer ∙ ap span_of (from_at c.loop-word.invariant.0 c.loop-word.word-index) ∙ e));
    }

pub number_at-requires : goal.number_at-requires
number_at-requires c =
    record {
      place = let W = c.loop-word.invariant.0 in
          rw (c.place.ensures.answer, c.second_of.ensures.answer, from_at W c.loop-word.word-index)
          (id_within c.args.self.now.indexed.words (W.place + c.loop-word.word-index) _ (from_within W _ (omega arith)) c.requires.span.ids);
    }

-- The stamp of the word's second id.
stamp_is : (c : After-number_at) → c.number_at.result ≡ at c.args.stamps.now
    (second_of (at c.args.self.now.table.now (c.loop-word.invariant.0.place + c.loop-word.word-index)))
stamp_is c = c.number_at.ensures.answer ∙ ap (at c.args.stamps.now) (c.place.ensures.answer ∙ c.second_of.ensures.answer
    ∙ ap second_of (from_at c.loop-word.invariant.0 c.loop-word.word-index))

pub returns-then-number_at-stamp : goal.returns-then-number_at-stamp
returns-then-number_at-stamp c =
    record {
      answer = let W = c.loop-word.invariant.0 in
          λ stamped. c.if-number_at-stamp.true (stamp_is (goal.at.returns-then-number_at-stamp c).After-number_at
          ∙ stamped _ (from_within W _ (omega arith))
          (sym (ap span_of (from_at W c.loop-word.word-index)) ∙ sym c.span_of.ensures.answer ∙ c.if-span_of-span.false));
    }

pub loop-word-preserved : goal.loop-word-preserved
loop-word-preserved c =
    let W = c.loop-word.invariant.0 in (
      W,
      subst (λ m. Comparing c.args.self.now.table.now c.args.stamps.now c.args.stamp c.args.span W.place m) (omega arith)
          (comparing_more c.args.self.now.indexed.words _ _ _ _ _ c.loop-word.invariant.1
          (sym (stamp_is (goal.at.loop-word-preserved c).After-number_at) ∙ c.if-number_at-stamp.false)),
    )

pub returns : goal.returns
returns c =
    record {
      answer = comparing_end c.args.self.now.indexed.words _ _ _ _ _ c.loop-word.invariant.1 (from_end c.loop-word.invariant.0 _ (omega arith));
    }
