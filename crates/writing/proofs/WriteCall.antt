-- The answers of writing, the length that it takes, and the bytes that it leaves. Assumes nothing.
use Prim.Native.Nat.{ℕ, ◌+◌, ◌≤◌, ◌<◌}
use mathlib.Core.Path.{◌≡◌, refl, sym, ap, ◌∙◌}
use mathlib.Core.Bool.{true, false, cond}
use mathlib.Core.List.{List, ◌++◌}
use native.Mathlib.Omega.{arith}
use native.Mathlib.Decide.{ℕ_discrete}
use lib.Dec.{eqb, ltb}
use lib.ListN.{length, take, drop}
use lib.Seq.{take_at, drop-drop, drop-append-add}
use borrow.Author.Tests.{eq-eqb, ne_eqb, lt-ltb, le-ltb, ltb-false}
use Rattle.rdfs.specs.Numbers.{product}
use Rattle.rdfs.specs.Lists.{concat_map}
use Rattle.rdfs.specs.Words.{filled}
use Rattle.rdfs.specs.Refusals.{or_else, table_refusal}
use Rattle.rdfs.specs.Register.{Table}
use Rattle.rdfs.proofs.Tickets.FirstTrue.{passed_link}
use Rattle.rdfs.proofs.Tickets.Steps.{table_passes, table_stops, checked_table}
use Rattle.std.specs.Prelude.{Ok, Err}
use Rattle.table.specs.Refused.{number}
use Rattle.table.specs.declared.refusals.Refusal.{Refusal}
use Rattle.table.specs.declared.refusals.Refusal.TheVariants.{ShortOutput}
use Rattle.table.proofs.RefusalNumbers.{number_some}
use Rattle.table.proofs.TestAnswers.{is_false}
use Rattle.contents.specs.ImageForm.{form, first_body}
use Rattle.contents.specs.Image.{id_bytes}
use Rattle.writing.specs.WritePromise.{table_image, write_answer, write_length, write_bytes, WritePromise}
use Rattle.writing.specs.KindEnds.{contents_by, length_by, KindEnds, KindEndsOf}
use Rattle.writing.specs.Writing.{Writing}
use Rattle.contents.proofs.Product.{complete}
use Rattle.writing.proofs.Measuring.{image_whole}
use Rattle.writing.proofs.EndsLaws.{contents_long, ends_contents, ends_length, ends_ready}

pub table_writing : {t : List ℕ} → Table product t → (n : ℕ) → n ≡ length (filled t) → Writing form t n
table_writing h n q =
    record { form = complete; writable = record { counted = record { laid = h.laid; size = q }; few = h.fits } }

-- The ends of the kinds of a consistent table: they can be written by, and the length by them is the image's.
module _ {t ends : List ℕ} {n : ℕ} (h : Table product t) (q : n ≡ length (filled t)) (e : KindEndsOf form t n ends) where
  pub table_ready : KindEnds form ends
  table_ready = ends_ready (table_writing h n q) e

  pub table_length : {size : ℕ} → size ≡ length_by form ends → size ≡ length (table_image t)
  table_length s = s ∙ ends_length (table_writing h n q) e

module _ (t out : List ℕ) where
  refused : (refusal : Refusal) → number refusal ≡ write_answer t out → WritePromise t out (Err refusal) out
  refused refusal e =
      let no : eqb (write_answer t out) 0 ≡ false =
      ne_eqb (write_answer t out) 0 (λ z. omega (arith, e, z, number_some refusal)) in (
        e,
        sym (ap (λ b. cond b (length (table_image t)) 0) no),
        sym (ap (λ b. cond b (table_image t ++ drop (length (table_image t)) out) out) no),
      )

  -- 13, or 0.
  abbrev last : ℕ
  last = or_else (ltb (length out) (length (table_image t))) 13 0

  -- 1, 2 and 3.
  pub write_refused : (refusal : Refusal) → number refusal ≡ table_refusal product t 0 → WritePromise t out (Err refusal) out
  write_refused refusal e = refused refusal (e ∙ table_stops product t last (λ z. omega (arith, e, z, number_some refusal)))

  module _ (consistent : Table product t) where
    -- 13.
    pub write_short : length out < length (table_image t) → WritePromise t out (Err ShortOutput) out
    write_short h = refused ShortOutput (sym (table_passes product t consistent last
        ∙ ap (λ b. or_else b 13 0) (lt-ltb (length out) (length (table_image t)) h)))

    pub write_done : length (table_image t) ≤ length out → (size : ℕ) → size ≡ length (table_image t)
        → (out' : List ℕ) → out' ≡ table_image t ++ drop (length (table_image t)) out
        → WritePromise t out (Ok size) out'
    write_done h size s out' q =
        let zero-answer : write_answer t out ≡ 0 =
        table_passes product t consistent last ∙ ap (λ b. or_else b 13 0) (le-ltb (length out) (length (table_image t)) h) in
        let yes-zero : eqb (write_answer t out) 0 ≡ true = eq-eqb (write_answer t out) 0 zero-answer in (
          sym zero-answer,
          s ∙ sym (ap (λ b. cond b (length (table_image t)) 0) yes-zero),
          q
              ∙ sym (ap (λ b. cond b (table_image t ++ drop (length (table_image t)) out) out) yes-zero),
        )

  -- Not refused: the table is consistent and the output is long enough.
  pub write_parts : write_answer t out ≡ 0 → (0 ≡ table_refusal product t 0) × (length (table_image t) ≤ length out)
  write_parts e = elim (ℕ_discrete (table_refusal product t 0) 0) [
    | yes z ↦
        let short : last ≡ 0 = sym (table_passes product t (checked_table product t z) last) ∙ e in
        let size : ℕ = length (table_image t) in
        (sym z, ltb-false (length out) size (is_false (passed_link (ltb (length out) size) 13 0 0 (omega arith) short).0))
    | no h ↦ absurd (h (table_stops product t last h ∙ e))
  ]

  -- The bytes, cut to the length, are the image.
  pub write_taken : write_answer t out ≡ 0 → take (write_length t out) (write_bytes t out) ≡ table_image t
  write_taken e =
      let image : List ℕ = table_image t in
      let yes-zero : eqb (write_answer t out) 0 ≡ true = eq-eqb (write_answer t out) 0 e in
      ap (λ b. take (cond b (length image) 0) (cond b (image ++ drop (length image) out) out)) yes-zero
      ∙ take_at image (drop (length image) out) (length image) refl

-- The bytes after the contents are stored: those before the first body are the image's, and those after the image are as they
-- were.
module _ {t : List ℕ} {n : ℕ} {ends : List ℕ} (w : Writing form t n) (f : KindEndsOf form t n ends) (out mid : List ℕ)
    (e : mid ≡ contents_by form ends ++ drop (first_body form) out) where
  abbrev first : List ℕ
  first = contents_by form ends

  long : length first ≡ first_body form
  long = contents_long form ends

  pub stored_first : take (first_body form) mid ≡ take (first_body form) (table_image t)
  stored_first = ap (take (first_body form)) e ∙ (take_at first (drop (first_body form) out) (first_body form) long
      ∙ ends_contents w f)

  pub stored_after : drop (length (table_image t)) mid ≡ drop (length (table_image t)) out
  stored_after =
      let m : ℕ = length (concat_map (id_bytes product form) (filled t)) in
      let size : length (table_image t) ≡ first_body form + m = image_whole complete t n w.writable in
      let place : first_body form + m ≡ length first + m = omega (arith, long) in
      ap (λ k. drop k mid) size ∙ (ap (drop (first_body form + m)) e
      ∙ (ap (λ k. drop k (first ++ drop (first_body form) out)) place
      ∙ (drop-append-add first (drop (first_body form) out) m ∙ (drop-drop m (first_body form) out
      ∙ ap (λ k. drop k out) (sym size)))))
