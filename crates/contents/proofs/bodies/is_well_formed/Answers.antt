-- `bodies::is_well_formed`: the contents are right and the words laid out. Assumes nothing.
use native.Mathlib.Omega.{arith}
use mathlib.Core.Path.{◌∙◌}
use Rattle.table.proofs.TestAnswers.{decides_true, decides_false}
use Rattle.contents.proofs.Product.{rising_well, wrong_malformed}
use Rattle.contents.proofs.bodies.is_well_formed.Goals as goal

pub returns-then-has_contents : goal.returns-then-has_contents
returns-then-has_contents c =
    record {
      answer = rising_well c.args.form.legible c.args.image.now (λ i. omega (arith, c.type_inv.image i))
          (decides_true c.has_contents.result c.has_contents.ensures.answer c.if-has_contents.true)
          c.is_rising.result c.is_rising.ensures.answer;
    }

pub returns-else-has_contents : goal.returns-else-has_contents
returns-else-has_contents c =
    record {
      answer = c.if-has_contents.false ∙ wrong_malformed c.args.form.legible c.args.image.now
          (λ i. omega (arith, c.type_inv.image i))
          (decides_false c.has_contents.result c.has_contents.ensures.answer c.if-has_contents.false);
    }
