-- `ask_on`: each way through it. Assumes nothing.
use mathlib.Core.Path.{refl, sym, subst, ◌∙◌}
use mathlib.Core.Logic.{inl, inr}
use lib.Seq.{length-take-le}
use Rattle.std.specs.Prelude.{Ok}
use Rattle.std.proofs.lemmas.Result.{err_from_is_err_and}
use Rattle.rdfs.specs.Numbers.{product}
use Rattle.rdfs.specs.Register.{Table}
use Rattle.preview.proofs.Trials.{tried}
use Rattle.preview.proofs.AskWays.{way_ticket, way_short, way_asked, written_front}
use Rattle.preview.proofs.ask_on.Goals as goal

pub try_ticket-requires : goal.try_ticket-requires
try_ticket-requires c = record { table = subst (Table product) (sym c.copy_from_slice.ensures.after) c.requires.table }

pub returns-in_err-asked : goal.returns-in_err-asked
returns-in_err-asked c =
    let p = err_from_is_err_and c.from_residual.result c.from_residual.ensures.1 in
    rw (p.1, p.2) (record {
      answer = way_ticket c.args.ticket.now c.args.added.now c.args.removed.now c.in_err-asked.field-0.0 c.requires.table
          c.copy_from_slice.ensures.after c.in_err-asked.ensures.answer;
    })

pub returns-then-added-coming : goal.returns-then-added-coming
returns-then-added-coming c =
    record {
      answer = way_short c.args.ticket.now c.args.added.now c.args.removed.now (Ok c.in_ok-asked.asked) c.requires.table
          c.copy_from_slice.ensures.after c.in_ok-asked.ensures.answer refl (inl c.if-added-coming.true);
    }

pub returns-then-removed-going : goal.returns-then-removed-going
returns-then-removed-going c =
    record {
      answer = way_short c.args.ticket.now c.args.added.now c.args.removed.now (Ok c.in_ok-asked.asked) c.requires.table
          c.copy_from_slice.ensures.after c.in_ok-asked.ensures.answer refl (inr c.if-removed-going.true);
    }

pub slice_bounds-put_missing-end-2 : goal.slice_bounds-put_missing-end-2
slice_bounds-put_missing-end-2 c = sym (length-take-le _ _ c.if-added-coming.false)

pub put_missing-requires : goal.put_missing-requires
put_missing-requires c =
    record {
      tables = let missed = (tried c.args.ticket.now (Ok c.in_ok-asked.asked) c.requires.table c.copy_from_slice.ensures.after
          c.in_ok-asked.ensures.answer refl).came in
          record {
            laid = missed.laid;
            other_laid = missed.other_laid;
            many = length-take-le _ _ c.if-added-coming.false ∙ missed.many;
          };
    }

pub slice_bounds-put_missing-end-4 : goal.slice_bounds-put_missing-end-4
slice_bounds-put_missing-end-4 c = sym (length-take-le _ _ c.if-removed-going.false)

pub put_missing-requires-2 : goal.put_missing-requires-2
put_missing-requires-2 c =
    record {
      tables = let missed = (tried c.args.ticket.now (Ok c.in_ok-asked.asked) c.requires.table c.copy_from_slice.ensures.after
          c.in_ok-asked.ensures.answer refl).went in
          record {
            laid = missed.laid;
            other_laid = missed.other_laid;
            many = length-take-le _ _ c.if-removed-going.false ∙ missed.many;
          };
    }

pub returns : goal.returns
returns c =
    record {
      answer = let missed = tried c.args.ticket.now (Ok c.in_ok-asked.asked) c.requires.table
          c.copy_from_slice.ensures.after c.in_ok-asked.ensures.answer refl in
          way_asked c.args.ticket.now c.args.added.now c.args.removed.now (Ok c.in_ok-asked.asked) c.requires.table
          c.copy_from_slice.ensures.after c.in_ok-asked.ensures.answer
          refl c.if-added-coming.false c.if-removed-going.false
          (written_front _ missed.came c.put_missing.ensures.words)
          (written_front _ missed.went c.put_missing-2.ensures.words);
    }
