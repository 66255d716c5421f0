-- `fact::fact_of`, by the word that the terms tell. Assumes nothing.
use mathlib.Core.Path.{sym, ap, subst, ◌∙◌}
use lib.Dec.{T}
use Rattle.std.specs.Option.{unwrap_or}
use Rattle.rdfs.specs.Numbers.{product}
use Rattle.terms.specs.Terms.{Proper}
use Rattle.triple_form.specs.LineRead.{FactOf}
use Rattle.triple_form.proofs.FactReading.{fact_told}
use Rattle.triple_form.proofs.fact.fact_of.Goals as goal

pub returns-then-is_fact : goal.returns-then-is_fact
returns-then-is_fact c =
    let s = c.args in
    let told = fact_told c.in-Id.a s.predicate s.object (subst (Proper product.top) c.in-Id.is c.requires.subject)
    c.requires.predicate c.requires.object (sym c.in_ok-k.ensures.answer)
    (c.unwrap_or-b.ensures ∙ ap (λ r. unwrap_or r 0) c.id_in.ensures.answer)
    (c.unwrap_or-c.ensures ∙ ap (λ r. unwrap_or r 0) c.id_in-2.ensures.answer) c.word_of-word.ensures.answer
    c.is_literal-literal.ensures.answer (subst T c.if-is_fact.ensures.answer tt) in
    record {
      answer = subst (λ t. FactOf t s.predicate s.object c.word_of-word.result c.is_literal-literal.result)
          (sym c.in-Id.is) told;
    }
