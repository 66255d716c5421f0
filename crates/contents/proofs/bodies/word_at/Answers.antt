-- `bodies::word_at`: as many numbers as the kind has ids. Assumes nothing.
use native.Mathlib.Omega.{arith}
use mathlib.Core.Path.{◌∙◌}
use Rattle.contents.proofs.ImagePlaces.{
  one_within,
  two_within,
  three_within,
  kind_digits,
  word_one,
  word_two,
  word_three,
}
use Rattle.contents.proofs.bodies.word_at.Goals as goal

pub id_at-c-requires : goal.id_at-c-requires
id_at-c-requires c =
    three_within c.args.form.legible c.requires.fact _ c.arity_of-ids.ensures.answer c.if-ids-eq1.false c.if-ids-eq2.false

pub word_of-requires-2 : goal.word_of-requires-2
word_of-requires-2 c =
    record {
      digits = kind_digits c.args.form.legible c.requires.fact _ c.arity_of-ids.ensures.answer _ _ _ c.id_at-a.ensures.bound c.id_at-b.ensures.bound
          c.id_at-c.ensures.bound;
    }

pub returns : goal.returns
returns c =
    record {
      answer = c.word_of-2.ensures.answer
          ∙ word_three c.args.form.legible c.requires.fact _ c.arity_of-ids.ensures.answer _ _ _ c.id_at-a.ensures.answer
          c.id_at-b.ensures.answer c.id_at-c.ensures.answer c.if-ids-eq1.false c.if-ids-eq2.false;
    }
