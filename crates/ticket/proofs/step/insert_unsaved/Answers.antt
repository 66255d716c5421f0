-- `step::insert_unsaved`: where there is no room, nothing is said of the words. Assumes nothing.
use mathlib.Core.Path.{sym, subst}
use mathlib.Core.Bool.{false}
use Rattle.rdfs.specs.Numbers.{product}
use Rattle.rdfs.specs.Register.{step}
use Rattle.ticket_form.specs.TicketForm.{record_of}
use Rattle.ticket.specs.Answered.{SteppedAs}
use Rattle.ticket.proofs.Ways.{possible_insertable}
use Rattle.ticket.proofs.KeptWords.{way_unsaved}
use Rattle.ticket.proofs.step.insert_unsaved.Goals as goal

pub grow-requires : goal.grow-requires
grow-requires c = record { insertion = possible_insertable c.requires.ticket }

pub returns : goal.returns
returns c =
    record {
      answer = subst (λ r. SteppedAs false c.args.count r c.grow.new.table
          (step product c.args.table.now (record_of 1 c.args.k c.args.a c.args.b c.args.c)))
          (sym c.ok_or.ensures.value)
          (way_unsaved c.requires.ticket c.grow.new.table c.grow.result c.grow.ensures.answer c.grow.auto.table);
    }
