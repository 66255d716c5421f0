-- `run_between`: the refusal found on a table of its own, or the list run with room for its image. Assumes nothing.
use mathlib.Core.Path.{sym}
use lib.ListN.{length}
use Rattle.std.proofs.lemmas.Result.{err_from_is_err_and}
use Rattle.host_list.proofs.HostListLaws.{longest_fits, not_refused}
use Rattle.host_list.proofs.HostListWays.{list_refused}
use Rattle.host_list.proofs.run_between.Goals as goal
use Rattle.host_list.proofs.run_between.Goals.{then-output-lt-LONGEST+in_ok-check_list_call, else-output-lt-LONGEST}

pub returns-in_err-check_list_call : goal.returns-in_err-check_list_call
returns-in_err-check_list_call c =
    let p = err_from_is_err_and c.from_residual.result c.from_residual.ensures.1 in
    let stopped = c.in_err-check_list_call in
    rw (p.1, p.2) (record {
      promise = list_refused c.args.operator c.args.image.now c.args.tickets.now c.args.answers.now c.args.output.now
          stopped.field-0.0 stopped.ensures.answer;
    })

pub run_list-requires : goal.run_list-requires
run_list-requires c =
    record {
      room = elim c.if-output-lt-LONGEST.branch [
        | then-output-lt-LONGEST+in_ok-check_list_call w ↦ λ e.
            (not_refused c.args.operator c.args.image.now c.args.tickets.now (length c.args.answers.now) (length c.args.output.now)
            (sym w.in_ok-check_list_call.ensures.answer)).1
        | else-output-lt-LONGEST w ↦
            longest_fits c.args.operator c.args.image.now c.args.tickets.now c.args.output.now w.if-output-lt-LONGEST.false
      ];
    }
