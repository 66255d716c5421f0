-- `reader::read_through`: the words stand in the work table; the check judges them, and they are copied if it passes. Assumes
-- nothing.
use mathlib.Core.Path.{◌≡◌, refl, sym, ap, subst, ◌∙◌}
use Rattle.std.proofs.lemmas.Result.{err_from_is_err_and}
use Rattle.triples.proofs.Numbered.{number_some}
use Prim.Native.Nat.{ℕ}
use mathlib.Core.List.{List}
use lib.ListN.{length, length-replicate, replicate}
use Rattle.rdfs.specs.Numbers.{product}
use Rattle.rdfs.specs.Words.{padded}
use Rattle.table.specs.Counted.{Counted}
use Rattle.triples.specs.TextRead.{text_words}
use Rattle.triples.specs.ReadTriples.{text_refusal}
use Rattle.triples.proofs.ReadTriplesCall.{
  zeros_counted,
  read_refused,
  read_done,
  read_text_refused,
  work_answer,
}
use Rattle.triples.proofs.reader.read_through.Goals as goal

-- The work table has as many words as the table; so the refusal of the text is that for the table, and so are the words.
module _ (table : List ℕ) {work : List ℕ} (zeros : work ≡ replicate (length table) 0) where
  room : length work ≡ length table
  room = ap length zeros ∙ length-replicate {A = ℕ} (length table) 0

  refusal_is : (text : List ℕ) {r : ℕ} → r ≡ text_refusal text (length work) → r ≡ text_refusal text (length table)
  refusal_is text e = e ∙ ap (text_refusal text) room

  words_are : (text : List ℕ) {new : List ℕ} → new ≡ padded (length work) (text_words product text)
      → new ≡ padded (length table) (text_words product text)
  words_are text e = e ∙ ap (λ n. padded n (text_words product text)) room

pub fill_text-requires : goal.fill_text-requires
fill_text-requires c =
    record { empty = subst (λ l. Counted l 0) (sym c.requires.work) (zeros_counted (length c.args.table.now)) }

pub returns-in_err-fill_text : goal.returns-in_err-fill_text
returns-in_err-fill_text c =
    let s = c.args in
    let p = err_from_is_err_and c.from_residual.result c.from_residual.ensures.1 in
    let some = number_some c.in_err-fill_text.field-0.0 in
    let refusal = refusal_is s.table.now c.requires.work s.text.now c.in_err-fill_text.ensures.answer in
    rw (p.1, p.2)
    (record {
      promise = read_refused s.table.now s.text.now _
          (read_text_refused s.table.now s.text.now c.requires.size refusal some) some;
    })

pub returns-in_err-check : goal.returns-in_err-check
returns-in_err-check c =
    let s = c.args in
    let p = err_from_is_err_and c.from_residual-in_err-check.result c.from_residual-in_err-check.ensures.1 in
    let fill = c.in_ok-fill_text.ensures in
    let refusal = refusal_is s.table.now c.requires.work s.text.now fill.answer in
    let words = words_are s.table.now c.requires.work s.text.now (fill.words refl) in
    let answer = work_answer s.table.now s.text.now c.requires.size refusal refl _ words c.in_err-check.ensures.answer in
    rw (p.1, p.2) (record { promise = read_refused s.table.now s.text.now _ answer (number_some c.in_err-check.field-0.0) })

pub returns : goal.returns
returns c =
    let s = c.args in
    let fill = c.in_ok-fill_text.ensures in
    let refusal = refusal_is s.table.now c.requires.work s.text.now fill.answer in
    let words = words_are s.table.now c.requires.work s.text.now (fill.words refl) in
    let answer = work_answer s.table.now s.text.now c.requires.size refusal refl _ words c.in_ok-check.ensures.answer in
    record { promise = read_done s.table.now s.text.now answer _ (c.copy_from_slice.ensures.after ∙ words) }
