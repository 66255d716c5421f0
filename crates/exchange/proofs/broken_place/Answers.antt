-- `broken_place`: the words of the text are stored in a table of zeros and their rules counted. Assumes nothing.
use mathlib.Core.Path.{◌∙◌}
use native.Mathlib.Omega.{arith}
use Rattle.rdfs.specs.Numbers.{product}
use Rattle.consistency.proofs.MetLaws.{met_within}
use Rattle.triples.proofs.ReadTriplesCall.{zeros_counted}
use Rattle.exchange.proofs.BrokenLaws.{broken_fills, broken_laid, broken_size, broken_place}
use Rattle.exchange.proofs.broken_place.Goals as goal

pub fill_text-filled-requires : goal.fill_text-filled-requires
fill_text-filled-requires c = record { empty = zeros_counted product.most }

pub count_met-met-requires : goal.count_met-met-requires
count_met-met-requires c =
    let stored = c.fill_text-filled.ensures.words (c.fill_text-filled.ensures.answer
    ∙ broken_fills c.args.text.now c.requires.inconsistent) in
    record {
      layout = broken_laid c.args.text.now c.requires.inconsistent _ stored;
      size = broken_size c.args.text.now c.requires.inconsistent _ stored;
    }

pub overflow_cast-result : goal.overflow_cast-result
overflow_cast-result c = omega (arith, met_within c.count_met-met.ensures.answer)

pub overflow_add-result : goal.overflow_add-result
overflow_add-result c = omega (arith, met_within c.count_met-met.ensures.answer)

pub returns : goal.returns
returns c =
    let stored = c.fill_text-filled.ensures.words (c.fill_text-filled.ensures.answer
    ∙ broken_fills c.args.text.now c.requires.inconsistent) in
    record {
      place = broken_place c.args.text.now c.requires.inconsistent _ stored c.count_met-met.result c.count_met-met.ensures.answer;
    }
