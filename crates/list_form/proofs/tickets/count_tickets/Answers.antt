-- `count_tickets`: whole records, and one for bytes left over. Assumes nothing.
use Rattle.std.proofs.Common.{ap, refl, sym, arith, ◌≡◌, ◌∙◌, ◌+◌, ◌/◌, ◌%◌, ℕ, zero, suc, min, cond, eqb}
use borrow.Author.Tests.{ne_eqb}
use Rattle.rdfs.specs.Numbers.{record_length}
use Rattle.list_form.proofs.tickets.count_tickets.Goals as goal

one_or_none : (left : ℕ) → min 1 left ≡ cond (eqb left 0) 0 1
one_or_none zero = refl
one_or_none (suc left) =
    let one : min 1 (suc left) ≡ 1 = omega arith in
    one ∙ sym (ap (λ b. cond b 0 1) (ne_eqb (suc left) 0 (λ e. absurd (omega (arith, e)))))

pub returns : goal.returns
returns c = record { answer = c.div_ceil.ensures ∙ ap (λ k. c.args.length / record_length + k) (one_or_none (c.args.length % record_length)) }
