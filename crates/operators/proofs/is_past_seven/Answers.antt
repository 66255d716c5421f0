-- `is_past_seven`: by the first of 5 to 7. Assumes nothing.
use mathlib.Core.Path.{◌∙◌}
use Rattle.ticket_form.proofs.Numbered.{ok_answers}
use Rattle.operators.proofs.is_past_seven.Goals as goal

pub returns : goal.returns
returns c = record { answer = c.is_ok.ensures.value ∙ ok_answers c.check_fields.result c.check_fields.ensures.answer }
