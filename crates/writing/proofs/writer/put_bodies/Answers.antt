use native.Mathlib.Omega.{arith}
use mathlib.Core.Path.{◌≡◌, sym, subst, ◌∙◌}
use Prim.Native.Nat.{ℕ, ◌+◌}
use mathlib.Core.List.{List}
use lib.ListN.{length, get_or}
use Rattle.rdfs.specs.Words.{filled}
use Rattle.contents.specs.FormOf.{form_of}
use Rattle.writing.specs.Writing.{Embodied}
use Rattle.writing.proofs.KindCount.{kind_first, kind_last}
use Rattle.writing.proofs.Stretches.{kind_stretch}
use Rattle.table.proofs.Overlaid.{overlaid_length}
use Rattle.writing.proofs.PutParts.{embodied_start, embodied_self, embodied_trans, embodied_all}
use Rattle.writing.proofs.writer.put_bodies.Goals as goal

pub loop-done-init : goal.loop-done-init
loop-done-init c =
    let b = c.requires.bodies in
    let t : List ℕ = c.args.table.now in
    let out : List ℕ = c.args.output.now in
    let none : 0 ≡ get_or c.args.ends.now 0 0 = kind_first t (length (filled t)) b.writing.writable ∙ sym (b.found.at 0
    (omega arith)) in
    let first = embodied_start b.writing out b.contents in
    subst (λ i. Embodied (form_of c.args.form) (filled t) out out i c.first_body-at.result) none
    (subst (Embodied (form_of c.args.form) (filled t) out out 0) (sym c.first_body-at.ensures.answer) first)

pub overflow_add-k : goal.overflow_add-k
overflow_add-k c = omega (arith, c.loop-done-test.true, c.args.form.legible.few)

pub overflow_cast-from : goal.overflow_cast-from
overflow_cast-from c = omega (arith, c.loop-done-test.true, c.args.form.legible.few)

pub offset_bounds-ends-done : goal.offset_bounds-ends-done
offset_bounds-ends-done c = omega (arith, c.loop-done-test.true, c.args.form.legible.few)

pub bounds-ends-done : goal.bounds-ends-done
bounds-ends-done c = omega (arith, c.loop-done-test.true, c.requires.bodies.found.places)

pub overflow_cast-to : goal.overflow_cast-to
overflow_cast-to c = omega (arith, c.loop-done-test.true, c.args.form.legible.few)

pub offset_bounds-ends-k : goal.offset_bounds-ends-k
offset_bounds-ends-k c = omega (arith, c.loop-done-test.true, c.args.form.legible.few)

pub bounds-ends-k : goal.bounds-ends-k
bounds-ends-k c = omega (arith, c.loop-done-test.true, c.requires.bodies.found.places)

pub put_stretch-at-requires : goal.put_stretch-at-requires
put_stretch-at-requires c =
    record {
      stretch = let done : ℕ = c.loop-done.done in
          let b = c.requires.bodies in
          let t : List ℕ = c.args.table.now in
          let held = c.loop-done.invariant in
          let long = overlaid_length held.laid (omega (arith, held.laid.within, b.room)) in
          record {
            writing = b.writing;
            stretch = kind_stretch t (length (filled t)) b.writing.writable (done + 1) _ _
                (b.found.at done (omega (arith, c.loop-done-test.true)))
                (b.found.at (done + 1) (omega (arith, c.loop-done-test.true))) _ c.arity_of-ids.ensures.answer;
            before = embodied_self held;
            room = omega (arith, long, b.room);
          };
    }

pub loop-done-preserved : goal.loop-done-preserved
loop-done-preserved c =
    embodied_trans c.loop-done.invariant c.put_stretch-at.ensures.bytes c.put_stretch-at.ensures.answer

pub returns : goal.returns
returns c =
    record {
      bytes = let n : ℕ = length (filled c.args.table.now) in
          let done : ℕ = c.loop-done.done in
          let b = c.requires.bodies in
          let last = kind_last c.args.table.now n b.writing.writable done
          (omega (arith, c.loop-done-test.false, b.writing.form.many)) in
          embodied_all b.writing c.loop-done.invariant (omega (arith, last, b.found.at done c.loop-done.auto.done-end));
    }
