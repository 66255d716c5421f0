-- `run_bytes`: the length, then the ticket. Assumes nothing.
use Rattle.table.specs.declared.refusals.Refusal.TheVariants.{BadLength}
use Rattle.ticket.proofs.RefusedSteps.{length_refused}
use Rattle.ticket.proofs.CallAnswers.{answered_refused}
use Rattle.ticket.proofs.KeptWords.{answered_as}
use Rattle.ticket.proofs.run_bytes.Goals as goal

pub returns-then-ticket-ne-RECORD : goal.returns-then-ticket-ne-RECORD
returns-then-ticket-ne-RECORD c =
    record {
      answer = answered_as c.args.keep (answered_refused BadLength (length_refused c.args.table.now c.args.ticket.now
          c.requires.table c.if-ticket-ne-RECORD.true));
    }
