-- `commit_on`: each way through it. Assumes nothing.
use mathlib.Core.Path.{refl, sym, subst, ◌∙◌}
use Rattle.std.specs.Prelude.{Ok}
use Rattle.std.proofs.lemmas.Result.{err_from_is_err_and}
use Rattle.rdfs.specs.Numbers.{product}
use Rattle.rdfs.specs.Register.{Table}
use Rattle.preview.proofs.Trials.{tried}
use Rattle.preview.proofs.CommitWays.{way_ticket, way_stale, way_committed}
use Rattle.preview.proofs.commit_on.Goals as goal

pub try_ticket-requires : goal.try_ticket-requires
try_ticket-requires c = record { table = subst (Table product) (sym c.copy_from_slice.ensures.after) c.requires.table }

pub returns-in_err-applied : goal.returns-in_err-applied
returns-in_err-applied c =
    let p = err_from_is_err_and c.from_residual.result c.from_residual.ensures.1 in
    rw (p.1, p.2) (record {
      answer = way_ticket c.args.ticket.now c.args.added.now c.args.removed.now c.in_err-applied.field-0.0 c.requires.table
          c.copy_from_slice.ensures.after c.in_err-applied.ensures.answer;
    })

pub is_current-requires : goal.is_current-requires
is_current-requires c =
    record {
      tables = tried c.args.ticket.now (Ok c.in_ok-applied.applied) c.requires.table c.copy_from_slice.ensures.after
          c.in_ok-applied.ensures.answer refl;
    }

pub returns-then-not-is_current : goal.returns-then-not-is_current
returns-then-not-is_current c =
    record {
      answer = way_stale c.args.ticket.now c.args.added.now c.args.removed.now (Ok c.in_ok-applied.applied) c.requires.table
          c.copy_from_slice.ensures.after c.in_ok-applied.ensures.answer refl
          (sym c.if-not-is_current.true ∙ c.is_current.ensures.answer);
    }

pub returns : goal.returns
returns c =
    record {
      answer = way_committed c.args.ticket.now c.args.added.now c.args.removed.now (Ok c.in_ok-applied.applied)
          c.requires.table c.copy_from_slice.ensures.after c.in_ok-applied.ensures.answer refl
          (sym c.if-not-is_current.false ∙ c.is_current.ensures.answer) c.copy_from_slice-2.ensures.after;
    }
