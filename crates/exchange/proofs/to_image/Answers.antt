-- `to_image`: refused by reading, with the place of the broken rule for 3, else as writing does. Assumes nothing.
use mathlib.Core.Path.{refl}
use Rattle.std.proofs.Common.{Ok, Err}
use Rattle.std.proofs.lemmas.Result.{err_from_is_err_and}
use Rattle.exchange.specs.declared.Rejected.TheVariants.{Refused}
use Rattle.exchange.proofs.Between.{read_text_table}
use Rattle.exchange.proofs.ExchangeWays.{image_refused, image_read, third_only}
use Rattle.exchange.proofs.to_image.Goals as goal

pub write_checked-requires : goal.write_checked-requires
write_checked-requires c =
    let read = c.in-Ok.ensures.promise in
    record { table = read_text_table c.args.text.now 0 read.answer_is refl read.words_are }

pub returns-in_err-length-in-Ok : goal.returns-in_err-length-in-Ok
returns-in_err-length-in-Ok c =
    let read = c.in-Ok.ensures.promise in
    let refusal = c.in_err-length-in-Ok.field-0.0 in
    let p = err_from_is_err_and c.from_residual.result c.from_residual.ensures.1 in
    rw (p.1, p.2)
    (record {
      promise = image_read c.args.text.now c.args.output.now read.answer_is read.words_are (Err refusal)
          c.write_checked.new.output c.in_err-length-in-Ok.ensures.promise (Err (Refused refusal)) refl refl refl;
    })

pub returns-in_ok-length-in-Ok : goal.returns-in_ok-length-in-Ok
returns-in_ok-length-in-Ok c =
    let read = c.in-Ok.ensures.promise in
    let length = c.in_ok-length-in-Ok.length in
    record {
      promise = image_read c.args.text.now c.args.output.now read.answer_is read.words_are (Ok length)
          c.write_checked.new.output c.in_ok-length-in-Ok.ensures.promise (Ok length) refl refl refl;
    }

pub returns-in_default : goal.returns-in_default
returns-in_default c =
    record {
      promise = image_refused c.args.text.now c.args.output.now c.in-Err.refusal c.in-Err.ensures.promise.answer_is
          (λ e. c.in_default.not-Inconsistent (third_only c.in-Err.refusal e));
    }
