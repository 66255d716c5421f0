use Rattle.std.proofs.Common.{rules, refl, sym, subst, ◌≤◌, ◌*◌, ◌∙◌, length}
use Rattle.rdfs.specs.Numbers.{record_length}
use Rattle.rdfs.specs.Register.{cut}
use Rattle.report.proofs.Printing.{bytes_start, bytes_table, bytes_line, bytes_more, bytes_end}
use Rattle.report.proofs.lines.put_lines.Goals as goal

pub loop-ticket-init : goal.loop-ticket-init
loop-ticket-init c = record {
  five = search rules;
  room = refl;
  lines = bytes_start c.args.table.now c.args.bytes.now _ c.args.out.now (search rules);
}

pub apply_checked-outcome-requires : goal.apply_checked-outcome-requires
apply_checked-outcome-requires c = record { table = bytes_table c.loop-ticket.invariant.lines c.requires.table }

pub put_line-at-requires : goal.put_line-at-requires
put_line-at-requires c =
    let loop = c.loop-ticket.invariant in record {
      room = bytes_line loop.lines _ _ loop.five c.in-Some.ensures.steps.1 (subst
          (λ k. 18 * length (cut record_length c.args.bytes.now) ≤ k) (sym loop.room) c.requires.room);
    }

pub loop-ticket-preserved : goal.loop-ticket-preserved
loop-ticket-preserved c =
    let loop = c.loop-ticket.invariant in
    let step = c.in-Some.ensures.steps in
    let put = c.put_line-at in record {
      five = step.0 ∙ loop.five;
      room = put.auto.out ∙ loop.room;
      lines = bytes_more loop.lines _ _ loop.five step.1 c.apply_checked-outcome.ensures.answer
          (put.ensures.bound, put.ensures.text);
    }

pub returns : goal.returns
returns c =
    let loop = c.loop-ticket.invariant in record {
      printed = bytes_end loop.lines c.in-None.ensures.steps.1.0 (subst
          (λ k. 18 * length (cut record_length c.args.bytes.now) ≤ k) (sym loop.room) c.requires.room);
    }
