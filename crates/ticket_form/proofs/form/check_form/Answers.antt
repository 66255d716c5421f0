-- `form::check_form`: a refusal from 5 to 7, which comes first. Assumes nothing.
use mathlib.Core.Path.{refl, sym, ◌∙◌}
use Rattle.std.proofs.lemmas.Result.{err_from_is_err_and}
use Rattle.rdfs.specs.Numbers.{product}
use Rattle.rdfs.specs.Refusals.{field_tests}
use Rattle.rdfs.proofs.Tickets.FirstTrue.{first_stops}
use Rattle.ticket_form.specs.TicketForm.{sense}
use Rattle.ticket_form.proofs.Numbered.{number_some}
use Rattle.ticket_form.proofs.form.check_form.Goals as goal

pub returns-in_err-check_fields : goal.returns-in_err-check_fields
returns-in_err-check_fields c =
    let p = err_from_is_err_and c.from_residual.result c.from_residual.ensures.1 in
    let refusal = c.in_err-check_fields.field-0.0 in
    let same = c.in_err-check_fields.ensures.answer in
    rw (p.1, p.2) (record {
      answer = same ∙ sym (first_stops (field_tests product (sense c.args.ticket)) _ (λ z. number_some refusal (same ∙ z)));
    })
