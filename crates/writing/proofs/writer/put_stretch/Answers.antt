use native.Mathlib.Omega.{arith}
use mathlib.Core.Path.{◌≡◌, sym, ap, subst, ◌∙◌}
use Prim.Native.Nat.{ℕ, ◌+◌, ◌-◌, ◌<◌}
use mathlib.Core.List.{List}
use lib.ListN.{length, get_or, take, drop}
use borrow.Author.Rules.{rules}
use Rattle.rdfs.specs.Words.{filled}
use Rattle.rdfs.specs.Numbers.{product}
use Rattle.table.specs.Overlay.{over}
use Rattle.table.proofs.CountedLaws.{counted_fact}
use Rattle.contents.specs.FormOf.{form_of}
use Rattle.contents.specs.Image.{id_bytes}
use Rattle.writing.specs.Writing.{Embodied, NewFact}
use Rattle.writing.proofs.Stretches.{stretch_within, lent_word, lent_inside, lent_all}
use Rattle.writing.proofs.PutParts.{embodied_room, embodied_more}
use Rattle.writing.proofs.writer.put_stretch.Goals as goal

pub offset_bounds-table-from : goal.offset_bounds-table-from
offset_bounds-table-from c =
    let new = c.requires.stretch in
    omega (arith, new.stretch.order, stretch_within new.stretch new.writing.writable, new.writing.writable.few)

pub slice_bounds-word-items-end : goal.slice_bounds-word-items-end
slice_bounds-word-items-end c =
    let within = stretch_within c.requires.stretch.stretch c.requires.stretch.writing.writable in search rules

pub loop-word-init : goal.loop-word-init
loop-word-init c =
    let first : c.args.from ≡ c.args.from + 0 = omega arith in (
      subst (λ i. Embodied (form_of c.args.form) (filled c.args.table.now) c.args.output.now c.args.output.now i c.args.start)
          first c.requires.stretch.before,
      omega arith,
    )

pub put_fact-at-requires : goal.put_fact-at-requires
put_fact-at-requires c =
    let new = c.requires.stretch in
    let place : ℕ = c.args.from + c.loop-word.word-index in
    let inside = lent_inside new.stretch c.loop-word.word-index c.loop-word-test.true in
    record {
      fact = subst (λ w. NewFact (form_of c.args.form) c.loop-word.output c.loop-word.at w c.args.ids)
          (sym (lent_word new.stretch c.loop-word.word-index c.loop-word-test.true))
          record {
            form = new.writing.form;
            fact = counted_fact new.writing.writable.counted place inside.1;
            arity_is = new.stretch.alike place (omega arith) inside.0;
            room = embodied_room new.writing c.loop-word.invariant.0 inside.1 new.room;
          };
    }

pub loop-word-preserved : goal.loop-word-preserved
loop-word-preserved c =
    let new = c.requires.stretch in
    let F = form_of c.args.form in
    let inside = lent_inside new.stretch c.loop-word.word-index c.loop-word-test.true in
    let word = lent_word new.stretch c.loop-word.word-index c.loop-word-test.true in
    let next : c.args.from + c.loop-word.word-index + 1 ≡ c.args.from + (c.loop-word.word-index + 1) = omega arith in (
      subst (λ i. Embodied F (filled c.args.table.now) c.args.output.now c.put_fact-at.new.output i c.put_fact-at.result) next
          (embodied_more new.writing c.loop-word.invariant.0 inside.1 _ _
          (c.put_fact-at.ensures.answer ∙ ap (λ w. c.loop-word.at + length (id_bytes product F w)) word)
          (c.put_fact-at.ensures.bytes ∙ ap (λ w. over c.loop-word.output c.loop-word.at (id_bytes product F w)) word)),
      omega (arith, c.put_fact-at.ensures.answer, c.loop-word.invariant.1),
    )

pub returns : goal.returns
returns c =
    let all = lent_all c.requires.stretch.stretch c.requires.stretch.writing.writable c.loop-word.word-index
    c.loop-word-test.false c.loop-word.auto.word-index-end in record {
      bytes = subst (λ i. Embodied (form_of c.args.form) (filled c.args.table.now) c.args.output.now
          c.loop-word.output i c.loop-word.at) all c.loop-word.invariant.0;
      answer = c.loop-word.invariant.1;
    }
