-- `line_length`: the lengths of the three terms, and what stands behind each. Assumes nothing.
use mathlib.Core.Path.{sym, ap, ◌∙◌}
use native.Mathlib.Omega.{arith}
use lib.ListN.{length}
use Rattle.std.proofs.Common.{Some}
use Rattle.terms.specs.Terms.{spelling}
use Rattle.triple_form.specs.LineRead.{word_line}
use Rattle.terms.specs.declared.term.Term.TheVariants.{Id}
use Rattle.triple_form.proofs.FactTermsOf.{word_subject}
use Rattle.triple_form.proofs.LineLength.{line_length, word_short}
use Rattle.triple_form.proofs.line.line_length.Goals as goal

pub returns : goal.returns
returns c =
    record {
      answer = let is = ap (λ n. Some (Id n)) c.first_of.ensures.answer ∙ sym (word_subject c.args.word c.requires.fact c.requires.line) in
          omega (
            arith,
            line_length (word_line c.args.word c.args.literal),
            c.term_length-subject.ensures.answer ∙ ap (λ t. length (spelling t)) is,
            c.term_length-predicate.ensures.answer ∙ ap (λ t. length (spelling t)) c.predicate_of.ensures.answer,
            c.term_length-object.ensures.answer ∙ ap (λ t. length (spelling t)) c.object_of.ensures.answer,
          );
    }

-- The whole is 154 at most, so that no sum on the way wraps.
pub overflow_add-result : goal.overflow_add-result
overflow_add-result c = omega (arith, (returns c).answer, word_short c.args.word c.args.literal c.requires.fact)

pub overflow_add-result-2 : goal.overflow_add-result-2
overflow_add-result-2 c = omega (arith, (returns c).answer, word_short c.args.word c.args.literal c.requires.fact)

pub overflow_add-result-3 : goal.overflow_add-result-3
overflow_add-result-3 c = omega (arith, (returns c).answer, word_short c.args.word c.args.literal c.requires.fact)
