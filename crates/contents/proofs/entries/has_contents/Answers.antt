-- `entries::has_contents`: each test is one part of the contents. Assumes nothing.
use native.Mathlib.Omega.{arith}
use mathlib.Core.Path.{sym, ◌∙◌}
use borrow.Author.Tests.{eq-eqb, lt-leb}
use Rattle.std.proofs.lemmas.Bool.{eqb-true}
use Rattle.contents.specs.ImageForm.{first_body}
use Rattle.contents.specs.FormOf.{form_of}
use Rattle.contents.specs.Contents.{Contents}
use Rattle.contents.proofs.ImageAgain.{chained_within}
use Rattle.contents.proofs.Deciding.{decides_as, decides_not, not_both}
use Rattle.contents.proofs.entries.has_contents.Goals as goal
use Rattle.contents.proofs.entries.has_contents.Goals.{
  then-image-first_body,
  else-image-first_body,
  then-byte_at-form,
  else-byte_at-form,
}

pub returns-else-byte_at-form-2 : goal.returns-else-byte_at-form-2
returns-else-byte_at-form-2 c =
    let wrong : Contents (form_of c.args.form) c.args.image.now → ⊥ =
    elim c.if-byte_at-form.branch [
      | then-byte_at-form w ↦ λ h.
          let same = eq-eqb _ _ (w.byte_at-then-byte_at-form.ensures.answer ∙ h.entries) in
          not_both (w.value-is ∙ same) c.if-byte_at-form-2.false
      | else-byte_at-form w ↦ elim c.if-image-first_body.branch [
        | then-image-first_body v ↦ λ h.
            let same = eq-eqb _ _ (v.byte_at.ensures.answer ∙ h.edition) in
            not_both (v.value-is ∙ same) w.if-byte_at-form.false
        | else-image-first_body v ↦ λ h. omega (
          arith,
          v.if-image-first_body.false,
          c.first_body.ensures.answer,
          chained_within (form_of c.args.form) c.args.image.now (form_of c.args.form).entries 0
              (first_body (form_of c.args.form)) h.linked.chain,
        )
      ]
    ] in
    record { answer = decides_not _ _ c.if-byte_at-form-2.false wrong }
