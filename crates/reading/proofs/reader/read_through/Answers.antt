-- `reader::read_through`: the words stand in the work table; the check judges them, and they are copied if it passes. Assumes
-- nothing.
use native.Mathlib.Omega.{arith}
use Prim.Native.Nat.{ℕ}
use mathlib.Core.Path.{sym, ap, ◌∙◌}
use lib.ListN.{length, length-replicate}
use Rattle.table.specs.Refused.{number}
use Rattle.table.proofs.RefusalNumbers.{number_some, number_layout}
use Rattle.reading.proofs.ReadCall.{read_refused, read_done, work_held, work_length, work_malformed, work_answer}
use Rattle.reading.proofs.reader.read_through.Goals as goal

pub store_words-requires-clause-contents : goal.store_words-requires-clause-contents
store_words-requires-clause-contents c = c.requires.fitting.contents

pub store_words-requires-clause-room : goal.store_words-requires-clause-room
store_words-requires-clause-room c = omega (
  arith,
  c.requires.fitting.fits,
  ap length c.requires.zeros,
  length-replicate {A = ℕ} (length c.args.table.now) 0,
)

pub returns-in-BadLayout : goal.returns-in-BadLayout
returns-in-BadLayout c =
    record {
      promise = read_refused c.args.table.now c.args.image.now 12
          (work_malformed c.args.table.now c.args.image.now (λ i. omega (arith, c.type_inv.image i)) c.requires.fitting _
          c.requires.zeros _ c.store_words.ensures.words (number c.in-Err.refusal) c.in-Err.ensures.answer
          (ap number c.in-BadLayout.is)) (omega arith);
    }

pub returns-in_default-refusal : goal.returns-in_default-refusal
returns-in_default-refusal c =
    record {
      promise = read_refused c.args.table.now c.args.image.now (number c.in-Err.refusal)
          (work_answer c.args.table.now c.args.image.now (λ i. omega (arith, c.type_inv.image i)) c.requires.fitting _
          c.requires.zeros _ c.store_words.ensures.words (number c.in-Err.refusal) c.in-Err.ensures.answer
          (λ e. c.in_default-refusal.not-BadLayout (number_layout c.in-Err.refusal e)))
          (λ e. omega (arith, e, number_some c.in-Err.refusal));
    }

pub copy_from_slice-requires : goal.copy_from_slice-requires
copy_from_slice-requires c =
    sym (work_length c.args.table.now c.args.image.now (λ i. omega (arith, c.type_inv.image i)) c.requires.fitting _
    c.requires.zeros _ c.store_words.ensures.words)

pub returns : goal.returns
returns c =
    record {
      promise = let answered = work_answer c.args.table.now c.args.image.now (λ i. omega (arith, c.type_inv.image i))
          c.requires.fitting _ c.requires.zeros _ c.store_words.ensures.words 0 c.in_default.ensures.answer
          (λ e. omega (arith, e)) in
          let held = work_held c.args.table.now c.args.image.now (λ i. omega (arith, c.type_inv.image i)) c.requires.fitting _
          c.requires.zeros _ c.store_words.ensures.words in
          read_done c.args.table.now c.args.image.now answered _ (c.copy_from_slice.ensures.after ∙ held);
    }
