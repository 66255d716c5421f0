-- `Spans::is_only` meets its contract: the span's first word has b, and no second word follows. Assumes nothing.
use mathlib.Core.Path.{◌≡◌, ◌∙◌, sym}
use mathlib.Core.Bool.{not}
use native.Mathlib.Omega.{arith}
use lib.Dec.{eqb}
use borrow.Author.Tests.{ne_eqb}
use Rattle.spans.proofs.Decided.{decides_as, decides_not, decides_eqb}
use Rattle.spans.proofs.SpanFacts.{first_stands, first_alone, next_apart}
use Rattle.spans.proofs.Spans.is_only.Goals as goal

pub returns-in-len1 : goal.returns-in-len1
returns-in-len1 c =
    record {
      answer = let W = rw c.span_at-span.ensures.answer at c.from_span.ensures.words in
          decides_as (eqb c.second_of.result c.args.b) (c.second_of.result ≡ c.args.b) _ (λ e z h. sym e ∙ c.second_of.ensures.answer
          ∙ first_alone c.args.self.now.indexed.words _ _ c.requires.kind c.requires.ids.0 W (λ l. absurd (omega arith)) z h)
          (λ f. c.second_of.ensures.answer
          ∙ sym (f _ (first_stands c.args.self.now.indexed.words _ _ c.requires.kind c.requires.ids.0 W (omega arith))))
          (decides_eqb c.second_of.result c.args.b);
    }

pub returns-then-second_of-b : goal.returns-then-second_of-b
returns-then-second_of-b c =
    record {
      answer = let W = rw c.span_at-span.ensures.answer at c.from_span.ensures.words in
          let other = decides_not _ _ (decides_eqb c.span_of.result c.span_at-span.result) in
          decides_as (not (eqb c.span_of.result c.span_at-span.result)) _ _
          (λ n z h. sym c.if-second_of-b.true ∙ c.second_of-in-len2-up.ensures.answer
          ∙ first_alone c.args.self.now.indexed.words _ _ c.requires.kind c.requires.ids.0 W (λ l e. n (c.span_of.ensures.answer ∙ e ∙ sym c.span_at-span.ensures.answer)) z h)
          (λ f e. next_apart c.args.self.now.indexed.words _ _ c.requires.kind c.requires.ids.0 W c.in-len2-up.len_at_least
          (sym c.span_of.ensures.answer ∙ e ∙ c.span_at-span.ensures.answer)
          (λ z h. sym c.second_of-in-len2-up.ensures.answer ∙ c.if-second_of-b.true ∙ f z h))
          other;
    }

pub returns-else-second_of-b : goal.returns-else-second_of-b
returns-else-second_of-b c =
    record {
      answer = let W = rw c.span_at-span.ensures.answer at c.from_span.ensures.words in
          rw (ne_eqb _ _ c.if-second_of-b.false) (λ f. c.if-second_of-b.false (c.second_of-in-len2-up.ensures.answer
          ∙ sym (f _ (first_stands c.args.self.now.indexed.words _ _ c.requires.kind c.requires.ids.0 W (omega arith)))));
    }
