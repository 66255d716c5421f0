-- `write_checked`: 13, or the text is put. Assumes nothing.
use Prim.Native.Nat.{ℕ, ◌≤◌, ◌<◌}
use mathlib.Core.Path.{◌≡◌, ap, subst, ◌∙◌}
use mathlib.Core.Bool.{Bool, false}
use mathlib.Core.List.{List, ◌++◌}
use native.Mathlib.Omega.{arith}
use lib.ListN.{length, take, drop, replicate}
use Rattle.rdfs.specs.Numbers.{product}
use Rattle.rdfs.specs.Facts.{lit, has}
use Rattle.rdfs.specs.Words.{filled}
use Rattle.rdfs.specs.Register.{Table}
use Rattle.table.specs.Counted.{Counted, facts_of}
use Rattle.table.proofs.CutTable.{cut_within, cut_length, cut_full, cut_facts}
use Rattle.flags.specs.Flags.{Adds}
use Rattle.triples.specs.Texts.{text_of}
use Rattle.triples.specs.Writing.{Telling}
use Rattle.triples.proofs.WriteTriplesCall.{write_short, write_done}
use Rattle.triples.proofs.LiteralFlags.{table_telling}
use Rattle.triples.proofs.write_checked.Goals as goal

-- The facts are counted, and the text is that of the table.
module _ {table : List ℕ} (h : Table product table) {n : ℕ} (e : n ≡ length (filled table)) where
  counted : Counted table n
  counted = record { laid = h.laid; size = e }

  telling : {flags : List Bool} → Adds (replicate 256 false) flags (λ x. has (facts_of (take n table)) (lit x))
      → Telling (take n table) flags
  telling a = table_telling counted (omega (arith, cut_within counted, h.fits)) a

  size_is : {size : ℕ} → size ≡ length (text_of (facts_of (take n table))) → size ≡ length (text_of (facts_of table))
  size_is d = d ∙ ap (λ K. length (text_of K)) (cut_facts counted)

  bytes_are : (out : List ℕ) {out' : List ℕ} → out' ≡ text_of (facts_of (take n table))
      ++ drop (length (text_of (facts_of (take n table)))) out
      → out' ≡ text_of (facts_of table) ++ drop (length (text_of (facts_of table))) out
  bytes_are out d = d ∙ ap (λ K. text_of K ++ drop (length (text_of K)) out) (cut_facts counted)

pub slice_bounds-facts-end : goal.slice_bounds-facts-end
slice_bounds-facts-end c = cut_length (counted c.requires.table c.count_facts-count.ensures.answer)

pub flag_literals-requires : goal.flag_literals-requires
flag_literals-requires c = record { facts = cut_full (counted c.requires.table c.count_facts-count.ensures.answer) }

pub text_length-length-requires : goal.text_length-length-requires
text_length-length-requires c =
    record { telling = telling c.requires.table c.count_facts-count.ensures.answer c.flag_literals.ensures.flags }

pub put_text-requires-clause-telling : goal.put_text-requires-clause-telling
put_text-requires-clause-telling c =
    telling c.requires.table c.count_facts-count.ensures.answer c.flag_literals.ensures.flags

pub returns-then-output-length : goal.returns-then-output-length
returns-then-output-length c =
    let size = size_is c.requires.table c.count_facts-count.ensures.answer c.text_length-length.ensures.answer in
    record {
      promise = write_short c.args.table.now c.args.output.now c.requires.table
          (subst (λ m. length c.args.output.now < m) size c.if-output-length.true);
    }

pub returns : goal.returns
returns c =
    let size = size_is c.requires.table c.count_facts-count.ensures.answer c.text_length-length.ensures.answer in
    record {
      promise = write_done c.args.table.now c.args.output.now c.requires.table
          (subst (λ m. m ≤ length c.args.output.now) size c.if-output-length.false) _ size _
          (bytes_are c.requires.table c.count_facts-count.ensures.answer _ c.put_text.ensures.bytes);
    }
