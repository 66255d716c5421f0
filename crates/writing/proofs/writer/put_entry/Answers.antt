-- `writer::put_entry`: the kind and the bytes per fact, then two fields. Assumes nothing.
use native.Mathlib.Omega.{arith}
use lib.ListN.{length-set}
use Rattle.contents.specs.FormOf.{form_of}
use Rattle.contents.proofs.FormBounds.{entry_inside}
use Rattle.writing.proofs.PutEntry.{entry_put}
use Rattle.writing.proofs.writer.put_entry.Goals as goal

pub entry_at-at-requires : goal.entry_at-at-requires
entry_at-at-requires c = record { kind = (c.requires.entry.entry.some, c.requires.entry.entry.most) }

pub overflow_cast-output : goal.overflow_cast-output
overflow_cast-output c = omega (arith, c.requires.entry.entry.most, c.args.form.legible.few)

pub bounds-output-at : goal.bounds-output-at
bounds-output-at c = omega (arith, entry_inside c.requires.entry.entry, c.entry_at-at.ensures.answer)

pub overflow_cast-output-2 : goal.overflow_cast-output-2
overflow_cast-output-2 c = omega (arith, c.fact_size-size.ensures.bound)

pub overflow_add-output : goal.overflow_add-output
overflow_add-output c = omega (arith, entry_inside c.requires.entry.entry, c.entry_at-at.ensures.answer)

pub bounds-output-at-2 : goal.bounds-output-at-2
bounds-output-at-2 c =
    simp length-set (omega (arith, entry_inside c.requires.entry.entry, c.entry_at-at.ensures.answer))

pub overflow_add-first : goal.overflow_add-first
overflow_add-first c = omega (arith, entry_inside c.requires.entry.entry, c.entry_at-at.ensures.answer)

pub overflow_add-second : goal.overflow_add-second
overflow_add-second c = omega (arith, entry_inside c.requires.entry.entry, c.entry_at-at.ensures.answer)

pub put_bytes-requires-clause-room : goal.put_bytes-requires-clause-room
put_bytes-requires-clause-room c =
    simp length-set (omega (arith, entry_inside c.requires.entry.entry, c.entry_at-at.ensures.answer))

pub put_bytes-requires-clause-small : goal.put_bytes-requires-clause-small
put_bytes-requires-clause-small c = c.requires.entry.start_fits

pub put_bytes-requires-2-clause-room : goal.put_bytes-requires-2-clause-room
put_bytes-requires-2-clause-room c = omega (
  arith,
  entry_inside c.requires.entry.entry,
  c.entry_at-at.ensures.answer,
  simp length-set at c.put_bytes.auto.output,
)

pub put_bytes-requires-2-clause-small : goal.put_bytes-requires-2-clause-small
put_bytes-requires-2-clause-small c = c.requires.entry.count_fits

pub returns : goal.returns
returns c =
    record {
      bytes = entry_put (form_of c.args.form) c.args.output.now c.args.k c.args.start c.args.count
          (entry_inside c.requires.entry.entry) _ c.entry_at-at.ensures.answer _ c.fact_size-size.ensures.answer _ _
          c.put_bytes.ensures.bytes c.put_bytes-2.ensures.bytes;
    }
