-- `step::run_deletion`: what is left is the register's. Assumes nothing.
use mathlib.Core.Path.{refl}
use borrow.Author.Rules.{rules}
use Rattle.ticket_form.proofs.Formed.{formed_ids, formed_shaped}
use Rattle.ticket.proofs.Ways.{ready_counted, way_deleted}
use Rattle.ticket.proofs.step.run_deletion.Goals as goal

pub delete-requires : goal.delete-requires
delete-requires c =
    record {
      asked = let ids = formed_ids 2 c.args.k c.args.a c.args.b c.args.c c.requires.ticket.formed in
          let shaped = formed_shaped 2 c.args.k c.args.a c.args.b c.args.c c.requires.ticket.formed refl in
          let counted = ready_counted c.requires.ticket in
          search rules;
    }

pub returns : goal.returns
returns c =
    record { answer = way_deleted c.requires.ticket c.delete.new.table c.delete.result c.delete.ensures.words c.delete.ensures.answer c.delete.auto.table }
