-- `put_answer`: the byte is stored, and a ticket with number 0 is counted. Assumes nothing.
use mathlib.Core.Path.{refl}
use borrow.Author.Rules.{rules}
use borrow.Author.Tests.{eq-eqb, ne_eqb}
use Rattle.list_form.proofs.answers.put_answer.Goals as goal

pub returns-then-number-eq0-clause-answer : goal.returns-then-number-eq0-clause-answer
returns-then-number-eq0-clause-answer c = simp (eq-eqb _ _ c.if-number-eq0.true)

pub returns-clause-answer : goal.returns-clause-answer
returns-clause-answer c = simp (ne_eqb _ _ c.if-number-eq0.false) (search rules)
