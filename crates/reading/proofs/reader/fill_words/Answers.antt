use native.Mathlib.Omega.{arith}
use mathlib.Core.Path.{sym, subst}
use Prim.Native.Nat.{◌+◌}
use borrow.Author.Rules.{rules}
use Rattle.contents.specs.FormOf.{form_of}
use Rattle.contents.specs.WithinBytes.{HasFacts}
use Rattle.contents.proofs.FormBounds.{field_small}
use Rattle.contents.proofs.ImagePlaces.{contents_entry, contents_facts}
use Rattle.reading.proofs.FilledBodies.{filled_start, filled_room, part_length, filled_more, filled_all}
use Rattle.reading.proofs.reader.fill_words.Goals as goal

pub loop-done-init : goal.loop-done-init
loop-done-init c = filled_start _ _ _

pub overflow_add-k : goal.overflow_add-k
overflow_add-k c = omega (arith, c.loop-done-test.true, c.args.form.legible.few)

pub start_at-from-requires : goal.start_at-from-requires
start_at-from-requires c =
    record { entry = contents_entry c.requires.contents _ (omega arith) (omega (arith, c.loop-done-test.true)) }

pub count_at-requires : goal.count_at-requires
count_at-requires c =
    record { entry = contents_entry c.requires.contents _ (omega arith) (omega (arith, c.loop-done-test.true)) }

pub slice_bounds-fill_body-end : goal.slice_bounds-fill_body-end
slice_bounds-fill_body-end c =
    let within = filled_room c.loop-done.invariant c.requires.room c.loop-done-test.true c.start_at-from.result c.count_at.result
    c.start_at-from.ensures.answer c.count_at.ensures.answer in
    search rules

pub fill_body-requires : goal.fill_body-requires
fill_body-requires c =
    let facts = contents_facts c.requires.contents (c.loop-done.done + 1) (omega arith) (omega (arith, c.loop-done-test.true))
    c.start_at-from.result c.count_at.result c.start_at-from.ensures.answer c.count_at.ensures.answer in
    let part = part_length c.loop-done.invariant c.requires.room c.loop-done-test.true c.start_at-from.result c.count_at.result
    c.start_at-from.ensures.answer c.count_at.ensures.answer in
    subst (HasFacts (form_of c.args.form) c.args.image.now (c.loop-done.done + 1) c.start_at-from.result) (sym part) facts

pub overflow_add-end : goal.overflow_add-end
overflow_add-end c =
    omega (
      arith,
      c.loop-done.invariant.passed.small,
      c.loop-done.invariant.passed.within,
      c.args.form.legible.few,
      c.count_at.ensures.bound,
      field_small c.args.form.legible,
    )

pub loop-done-preserved : goal.loop-done-preserved
loop-done-preserved c =
    filled_more c.loop-done.invariant c.requires.room c.loop-done-test.true _ _ c.start_at-from.ensures.answer
    c.count_at.ensures.answer c.args.form.legible c.count_at.ensures.bound _
    c.fill_body.ensures.words

pub returns : goal.returns
returns c = record { words = filled_all c.loop-done.invariant c.requires.room c.loop-done-test.false }
