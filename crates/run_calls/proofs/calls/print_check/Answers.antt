-- `print_check`: a table refused with 3 is laid out. Assumes nothing.
use Rattle.std.proofs.Common.{◌≡◌, sym, ap, ◌∙◌, Err}
use Rattle.table.specs.Refused.{number, answer_of}
use Rattle.table.specs.declared.refusals.Refusal.TheVariants.{Inconsistent}
use Rattle.consistency.proofs.Refused.{refused_laid}
use Rattle.run_calls.proofs.calls.print_check.Goals as goal

pub first_broken-requires : goal.first_broken-requires
first_broken-requires c =
    let refused : c.check-outcome.result ≡ Err c.in-Err-Inconsistent.field-0 = c.in-Err-Inconsistent.is in
    let third : c.in-Err-Inconsistent.field-0 ≡ Inconsistent = rw refused at c.in-Err-Inconsistent.field-0-is in
    let r = refused_laid c.args.table.now (sym (ap answer_of refused ∙ ap number third) ∙ c.check-outcome.ensures.answer) in
    record { layout = r.0; size = r.1 }
