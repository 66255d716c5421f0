-- `lookups::first_with`: the first word of the span, if the search ends in it. Assumes nothing.
use mathlib.Core.Path.{ap, ◌∙◌}
use native.Mathlib.Omega.{arith}
use Rattle.std.specs.Prelude.{Some}
use Rattle.std.proofs.lemmas.Option.{MatchOption-at_none}
use Rattle.table.proofs.CountedLaws.{full_ascending}
use Rattle.clash.proofs.SpanFirst.{Span, span_found}
use Rattle.clash.proofs.lookups.first_with.Goals as goal

pub count_below-place-requires : goal.count_below-place-requires
count_below-place-requires c = record { words = full_ascending c.requires.facts.full }

pub overflow_sub-word : goal.overflow_sub-word
overflow_sub-word c =
    let found : Span c.args.facts.now c.args.k c.args.p c.word_of-least.result c.count_below-place.result =
    span_found c.requires.facts.full c.requires.facts.id c.word_of-least.ensures.answer c.count_below-place.ensures.answer in
    let there = c.in-Some.ensures.lookup.3 in
    omega (arith, there.1 0, found.above there.0)

pub returns-in-Some : goal.returns-in-Some
returns-in-Some c =
    let found : Span c.args.facts.now c.args.k c.args.p c.word_of-least.result c.count_below-place.result =
    span_found c.requires.facts.full c.requires.facts.id c.word_of-least.ensures.answer c.count_below-place.ensures.answer in
    let there = c.in-Some.ensures.lookup.3 in
    record {
      answer = ap Some (there.1 0) ∙ found.some there.0 (omega (arith, there.1 0, found.above there.0, c.if-word-least.true));
    }

pub returns-in_default : goal.returns-in_default
returns-in_default c =
    let found : Span c.args.facts.now c.args.k c.args.p c.word_of-least.result c.count_below-place.result =
    span_found c.requires.facts.full c.requires.facts.id c.word_of-least.ensures.answer c.count_below-place.ensures.answer in
    let there = c.in-Some.ensures.lookup.3 in
    record { answer = found.none (λ h. omega (arith, there.1 0, found.above h, c.if-word-least.false)) }

pub returns-in_default-2 : goal.returns-in_default-2
returns-in_default-2 c =
    let found : Span c.args.facts.now c.args.k c.args.p c.word_of-least.result c.count_below-place.result =
    span_found c.requires.facts.full c.requires.facts.id c.word_of-least.ensures.answer c.count_below-place.ensures.answer in
    record {
      answer = found.none (λ h. absurd (omega (arith, h, MatchOption-at_none _ _ c.in_default.is c.get.ensures.lookup.3)));
    }
