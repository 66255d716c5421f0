use mathlib.Core.Path.{ap, ◌∙◌}
use mathlib.Core.List.{[], ◌∷◌}
use native.Mathlib.Omega.{arith}
use Rattle.triples.specs.Storing.{flagged_from}
use Rattle.triples.proofs.Pending.{pending_start, pending_as, pending_now, pending_more, pending_full}
use Rattle.triples.proofs.Ids.{from_all, flagged_yes, flagged_no}
use Rattle.triples.proofs.reader.store_flagged.Goals as goal
use Rattle.triples.proofs.reader.store_flagged.Goals.{then-flags-place+in_ok-total, else-flags-place}

pub loop-n-init : goal.loop-n-init
loop-n-init c =
    pending_as (ap (flagged_from c.args.k c.args.flags.now) from_all) (pending_start _ c.requires.counted)

pub returns-in_err-total : goal.returns-in_err-total
returns-in_err-total c =
    let first = pending_as (flagged_yes c.args.k c.args.flags.now _ (omega arith) c.place.ensures.answer
    c.if-flags-place.true c.word_of.ensures.answer) c.loop-n.invariant in
    rw c.from_residual.ensures
    (record {
      words = (
        pending_full (c.word_of.result ∷ []) _ first c.in_err-total.ensures.words.0,
        c.in_err-total.ensures.words.1 ∙ c.loop-n.invariant.size,
      );
    })

pub loop-n-preserved : goal.loop-n-preserved
loop-n-preserved c =
    elim c.if-flags-place.branch [
      | then-flags-place+in_ok-total w ↦
          let first = pending_as (flagged_yes c.args.k c.args.flags.now _ (omega arith) c.place.ensures.answer
          w.if-flags-place.true w.word_of.ensures.answer) c.loop-n.invariant in
          pending_now w.table-is w.total-is (pending_more (w.word_of.result ∷ []) _ first w.in_ok-total.ensures.words)
      | else-flags-place w ↦ pending_now w.table-is w.total-is (pending_as (flagged_no c.args.k c.args.flags.now _
          (omega arith) c.place.ensures.answer w.if-flags-place.false) c.loop-n.invariant)
    ]
