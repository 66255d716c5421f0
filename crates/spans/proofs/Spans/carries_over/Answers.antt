use mathlib.Core.Path.{refl, ap}
use mathlib.Core.Bool.{not}
use native.Mathlib.Omega.{arith}
use Rattle.spans.specs.Spans.{id_count}
use Rattle.spans.specs.Graphs.{Carried}
use Rattle.spans.proofs.Entered.{zeros_at}
use Rattle.spans.proofs.Decided.{decided_met, decided_broken}
use Rattle.spans.proofs.SpanPlaces.{first_id}
use Rattle.spans.proofs.KindWords.{of_each}
use Rattle.spans.proofs.Carrying.{carrying_none, carrying_next, carrying_more, carrying_end}
use Rattle.spans.proofs.Carrying.{last_id, first_counted, last_counted, stamps_decide}
use Rattle.spans.proofs.Spans.carries_over.Goals as goal

pub loop-word-init : goal.loop-word-init
loop-word-init c =
    carrying_none _ _ _ _ _ _ c.words_of_kind-words.ensures.words refl (zeros_at id_count)

pub span_at-span-requires : goal.span_at-span-requires
span_at-span-requires c =
    record {
      kind = c.requires.kinds.upper.kind;
      id = rw c.first_of.ensures.answer (first_id c.loop-word.invariant.kind.facts _ (omega arith));
    }

pub stamp_next-requires : goal.stamp_next-requires
stamp_next-requires c =
    let fact = c.loop-word.invariant.kind.facts.facts c.loop-word.word-index (omega arith) in
    let span = rw c.first_of.ensures.answer at c.span_at-span.ensures.answer in record {
      span = record {
        counted = first_counted c.args.self.now.indexed.words c.requires.kinds _ fact _ _ span refl;
        ids = c.loop-word.invariant.ids;
      };
      last = carrying_next c.loop-word.invariant (omega arith) c.requires.kinds.upper _ span;
    }

pub span_at-requires : goal.span_at-requires
span_at-requires c =
    let fact = c.loop-word.invariant.kind.facts.facts c.loop-word.word-index (omega arith) in record {
      kind = c.requires.kinds.lower.kind;
      id = rw c.last_of.ensures.answer (last_id c.args.self.now.indexed.words c.requires.kinds _ fact);
    }

pub is_stamped-requires : goal.is_stamped-requires
is_stamped-requires c =
    record {
      span = let fact = c.loop-word.invariant.kind.facts.facts c.loop-word.word-index (omega arith) in
          let other = rw c.last_of.ensures.answer at c.span_at.ensures.answer in
          record { counted = last_counted c.args.self.now.indexed.words c.requires.kinds _ fact _ _ refl other; ids = c.stamp_next.ensures.stamps.ids };
    }

pub returns-then-not-is_stamped : goal.returns-then-not-is_stamped
returns-then-not-is_stamped c =
    record {
      answer = let fact = c.loop-word.invariant.kind.facts.facts c.loop-word.word-index (omega arith) in
          let span = rw c.first_of.ensures.answer at c.span_at-span.ensures.answer in
          let other = rw c.last_of.ensures.answer at c.span_at.ensures.answer in
          let decided = stamps_decide c.args.self.now.indexed.words c.requires.kinds _ fact _ _ span other c.stamp_next.ensures.stamps c.is_stamped.result c.is_stamped.ensures.answer in
          λ carries. decided_broken c.is_stamped.result _ decided (ap not c.if-not-is_stamped.true)
          (of_each c.loop-word.invariant.kind (Carried c.args.self.now.table.now c.args.k c.args.m c.args.l) carries _ (omega arith));
    }

pub loop-word-preserved : goal.loop-word-preserved
loop-word-preserved c =
    let fact = c.loop-word.invariant.kind.facts.facts c.loop-word.word-index (omega arith) in
    let span = rw c.first_of.ensures.answer at c.span_at-span.ensures.answer in
    let other = rw c.last_of.ensures.answer at c.span_at.ensures.answer in
    let decided = stamps_decide c.args.self.now.indexed.words c.requires.kinds _ fact _ _ span other c.stamp_next.ensures.stamps c.is_stamped.result c.is_stamped.ensures.answer in
    carrying_more c.loop-word.invariant (omega arith) _ span c.stamp_next.ensures.stamps
    (decided_met c.is_stamped.result _ decided (ap not c.if-not-is_stamped.false))

pub returns : goal.returns
returns c = record { answer = carrying_end c.loop-word.invariant (omega arith) }
