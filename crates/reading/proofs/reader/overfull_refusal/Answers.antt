-- `reader::overfull_refusal`: 12 exactly if the words are not laid out. Assumes nothing.
use native.Mathlib.Omega.{arith}
use mathlib.Core.Path.{sym, ap, ◌∙◌}
use mathlib.Core.Bool.{not}
use Rattle.rdfs.specs.Refusals.{or_else}
use Rattle.contents.proofs.Product.{right_malformed}
use Rattle.reading.proofs.reader.overfull_refusal.Goals as goal

pub returns-then-is_rising : goal.returns-then-is_rising
returns-then-is_rising c =
    record {
      answer = sym (ap (λ m. or_else m 12 11) (right_malformed c.args.form.legible c.args.image.now
          (λ i. omega (arith, c.type_inv.image i)) c.requires.contents
          ∙ ap not (sym c.is_rising.ensures.answer ∙ c.if-is_rising.true)));
    }

pub returns : goal.returns
returns c =
    record {
      answer = sym (ap (λ m. or_else m 12 11) (right_malformed c.args.form.legible c.args.image.now
          (λ i. omega (arith, c.type_inv.image i)) c.requires.contents
          ∙ ap not (sym c.is_rising.ensures.answer ∙ c.if-is_rising.false)));
    }
