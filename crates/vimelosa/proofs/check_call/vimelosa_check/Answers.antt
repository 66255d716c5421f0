-- `check_call::vimelosa_check`: each way through it. Refused with 3, the image's words are stored and their rules counted.
-- Assumes nothing.
use Prim.Native.Nat.{◌+◌}
use mathlib.Core.Path.{sym, ap, ◌∙◌}
use native.Mathlib.Omega.{arith}
use denote.Enum.Bare.{differs_true, differs_false}
use Rattle.table.specs.contracts.refusals.Refusal.{the_type}
use Rattle.table.specs.declared.refusals.Refusal.TheVariants.{Inconsistent}
use Rattle.table.specs.Refused.{number}
use Rattle.packing.specs.Packed.{packed}
use Rattle.consistency.proofs.MetLaws.{met_within}
use Rattle.exchange.proofs.ExchangeWays.{third_only}
use Rattle.vimelosa.proofs.CheckWays.{way_other, refused_contents, kept_fits, stored_laid, stored_fits, way_broken}
use Rattle.vimelosa.proofs.check_call.vimelosa_check.Goals as goal

pub returns-in_default : goal.returns-in_default
returns-in_default c =
    record {
      promise = way_other c.args.image.now 0 c.pack.result c.in_default.ensures.promise.0 (λ z. omega (arith, z)) c.pack.ensures.answer;
    }

pub returns-then-ne : goal.returns-then-ne
returns-then-ne c =
    let refusal = c.in-Err.refusal in
    record {
      promise = way_other c.args.image.now (number refusal) c.pack-then-ne.result c.in-Err.ensures.promise.0
          (λ e. differs_true the_type refusal _ (sym c.ne.ensures ∙ c.if-ne.true) (third_only refusal e))
          (c.pack-then-ne.ensures.answer ∙ ap (λ n. packed n 0 0 0) c.from.ensures);
    }

pub store_words-requires : goal.store_words-requires
store_words-requires c =
    let same = differs_false the_type tt c.in-Err.refusal Inconsistent (sym c.ne.ensures ∙ c.if-ne.false) in
    let third = sym c.in-Err.ensures.promise.0 ∙ ap number same in record {
      contents = refused_contents c.args.image.now third;
      room = kept_fits c.args.image.now third _ c.in-Err.ensures.promise.1;
    }

pub count_met-met-requires : goal.count_met-met-requires
count_met-met-requires c =
    let same = differs_false the_type tt c.in-Err.refusal Inconsistent (sym c.ne.ensures ∙ c.if-ne.false) in
    let third = sym c.in-Err.ensures.promise.0 ∙ ap number same in record {
      layout = stored_laid c.args.image.now third _ c.in-Err.ensures.promise.1 _ c.store_words.ensures.words;
      size = stored_fits c.args.image.now third _ c.in-Err.ensures.promise.1 _ c.store_words.ensures.words;
    }

pub overflow_cast-met : goal.overflow_cast-met
overflow_cast-met c = omega (arith, met_within c.count_met-met.ensures.answer)

pub overflow_add-met : goal.overflow_add-met
overflow_add-met c = omega (arith, met_within c.count_met-met.ensures.answer)

pub returns : goal.returns
returns c =
    let same = differs_false the_type tt c.in-Err.refusal Inconsistent (sym c.ne.ensures ∙ c.if-ne.false) in
    let third = sym c.in-Err.ensures.promise.0 ∙ ap number same in record {
      promise = way_broken c.args.image.now third _ c.in-Err.ensures.promise.1 _ c.store_words.ensures.words
          c.count_met-met.result c.pack-2.result c.count_met-met.ensures.answer
          (c.pack-2.ensures.answer ∙ ap (λ n. packed n (c.count_met-met.result + 1) 0 0) (c.from-2.ensures ∙ ap number same));
    }
