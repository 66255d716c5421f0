-- `body`: the part that the entry gives, or the empty part at the end. Assumes nothing.
use native.Mathlib.Omega.{arith}
use mathlib.Core.Path.{◌≡◌, ap}
use mathlib.Core.List.{List}
use Prim.Native.Nat.{ℕ, ◌+◌, ◌*◌, ◌-◌}
use lib.ListN.{length, take, drop}
use Rattle.contents.specs.ImageForm.{Form}
use Rattle.contents.specs.FormOf.{form_of}
use Rattle.contents.proofs.FormBounds.{body_small}
use Rattle.contents.proofs.HasBody.{
  there,
  there_entry,
  there_size,
  there_within,
  gone,
  part_none,
  part_some,
  in_image_form,
}
use borrow.Author.Rules.{rules}
use mathlib.Core.Bool.{not}
use Rattle.contents.proofs.body.Goals as goal

pub start_at-from-requires : goal.start_at-from-requires
start_at-from-requires c =
    record {
      entry = let bytes : List ℕ = c.args.image.now in
          there_entry _ bytes c.args.kind (there _ bytes c.args.kind c.of-form.result.legible
          c.has_body.result c.has_body.ensures.answer (ap not c.if-not-has_body.false));
    }

pub count_at-requires : goal.count_at-requires
count_at-requires c =
    record {
      entry = let bytes : List ℕ = c.args.image.now in
          there_entry _ bytes c.args.kind (there _ bytes c.args.kind c.of-form.result.legible
          c.has_body.result c.has_body.ensures.answer (ap not c.if-not-has_body.false));
    }

pub overflow_mul-to : goal.overflow_mul-to
overflow_mul-to c =
    omega (
      arith,
      body_small c.of-form.result.legible c.fact_size.result
          c.count_at.result c.fact_size.ensures.bound c.count_at.ensures.bound,
    )

pub overflow_add-to : goal.overflow_add-to
overflow_add-to c =
    let bytes : List ℕ = c.args.image.now in
    let here = there _ bytes c.args.kind c.of-form.result.legible c.has_body.result
    c.has_body.ensures.answer (ap not c.if-not-has_body.false) in
    omega (
      arith,
      there_within _ bytes c.args.kind here _ _ _ c.start_at-from.ensures.answer
          c.fact_size.ensures.answer c.count_at.ensures.answer,
    )

pub slice_bounds-result-end-2 : goal.slice_bounds-result-end-2
slice_bounds-result-end-2 c =
    let bytes : List ℕ = c.args.image.now in
    let here = there _ bytes c.args.kind c.of-form.result.legible c.has_body.result
    c.has_body.ensures.answer (ap not c.if-not-has_body.false) in
    let inside = there_within _ bytes c.args.kind here _ _ _ c.start_at-from.ensures.answer
    c.fact_size.ensures.answer c.count_at.ensures.answer in
    search rules
