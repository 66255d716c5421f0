-- `Form::of`: by the byte that gives the number of entries. Assumes nothing.
use native.Mathlib.Omega.{arith}
use mathlib.Core.Path.{sym}
use Rattle.contents.proofs.ImageForms.{ten_form_lem, product_form, short_form}
use Rattle.contents.proofs.form.Form.of.Goals as goal
use Rattle.contents.proofs.form.Form.of.Goals.{
  else-image-ge-HEADER-via-then-image-ge-HEADER+else-image,
  else-image-ge-HEADER-via-else-image-ge-HEADER,
}

pub overflow_cast-image : goal.overflow_cast-image
overflow_cast-image c = record { fits = omega (arith, c.type_inv.image 1) }

pub returns-then-image : goal.returns-then-image
returns-then-image c = record { answer = sym (ten_form_lem c.args.image.now c.if-image.true) }

pub returns : goal.returns
returns c =
    record {
      answer = elim c.else-image-ge-HEADER.branch [
        | else-image-ge-HEADER-via-then-image-ge-HEADER+else-image w ↦ sym (product_form c.args.image.now w.if-image.false)
        | else-image-ge-HEADER-via-else-image-ge-HEADER w ↦ sym (short_form c.args.image.now w.if-image-ge-HEADER.false)
      ];
    }
