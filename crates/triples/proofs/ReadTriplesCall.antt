-- The answers of reading a text, and the words that it leaves. Assumes nothing.
use Prim.Native.Nat.{ℕ, ◌≤◌}
use mathlib.Core.Path.{◌≡◌, sym, ap, ◌∙◌}
use mathlib.Core.Bool.{Bool, true, false, not, ◌||◌}
use mathlib.Core.List.{List, []}
use native.Mathlib.Omega.{arith}
use lib.Dec.{T, ltb, leb}
use lib.ListN.{length, replicate}
use borrow.Author.Tests.{ltb-false}
use Rattle.rdfs.specs.Numbers.{product}
use Rattle.rdfs.specs.Lists.{◌∈◌, concat_map}
use Rattle.rdfs.specs.Facts.{Fact}
use Rattle.rdfs.specs.Words.{allowed, laid_out, padded}
use Rattle.rdfs.specs.Refusals.{or_else, first_or, bad_size, bad_layout, inconsistent, table_refusal}
use Rattle.rdfs.proofs.Lists.ListLaws.{none_in}
use Rattle.rdfs.proofs.Words.LaidOut.{filled_before, laid_from}
use Rattle.rdfs.proofs.Words.Tables.{padded_length, laid_padded}
use Rattle.rdfs.proofs.Tickets.FirstTrue.{passed_link, rest_answers, first_stops}
use Rattle.rdfs.proofs.Theorems.{product_sound}
use Rattle.table.specs.Counted.{Counted}
use Rattle.table.proofs.TestAnswers.{is_true, is_false}
use Rattle.triples.specs.TextRead.{lines_read, outside_profile, given, text_words}
use Rattle.triples.specs.ReadTriples.{text_tests, text_refusal, read_triples_answer, ReadTriplesPromise}
use Rattle.triples.proofs.LinesRead.{top, read_profile}
use Rattle.triples.proofs.ReadFacts.{given_allowed}
use Rattle.triples.proofs.ReadAnswer.{held_rules, read_holds, read_keeps}

-- A table of zeros has no facts.
pub zeros_counted : (n : ℕ) → Counted (replicate n 0) 0
zeros_counted n = record {
  laid = laid_from product 1 [] n (omega arith) tt (λ x k. absurd (none_in k));
  size = sym (ap length (filled_before [] n (λ x k. absurd (none_in k))));
}

-- Refusal 3 of the words of a text, or 0.
abbrev last : List ℕ → ℕ
last text = or_else (inconsistent product (text_words product text)) 3 0

-- The words of a text in a table of right size, with zeros after them: only 3 can come.
module _ (text : List ℕ) (n : ℕ) where
  abbrev held : List ℕ
  held = padded n (text_words product text)

  abbrev G : List Fact
  G = concat_map given (lines_read top text)

  may : (f : Fact) → f ∈ G → T (allowed top f)
  may = given_allowed (lines_read top text) (read_profile text)

  held_laid : bad_layout product held ≡ false
  unfolding text_words
  held_laid = ap not (is_true {b = laid_out product 1 held} (laid_padded product product_sound n G may))

  held_same : inconsistent product held ≡ inconsistent product (text_words product text)
  unfolding text_words
  held_same = sym (held_rules G may n)

  held_checked : leb n 0 || ltb product.most n ≡ false → length (text_words product text) ≤ n
      → table_refusal product held 0 ≡ last text
  held_checked size h =
      let sized : bad_size product held ≡ false =
      ap (λ m. leb m 0 || ltb product.most m) (padded_length n (text_words product text) h) ∙ size in
      ap (λ b. or_else b 1 (or_else (bad_layout product held) 2 (or_else (inconsistent product held) 3 0))) sized
      ∙ (ap (λ b. or_else b 2 (or_else (inconsistent product held) 3 0)) held_laid ∙ ap (λ b. or_else b 3 0) held_same)

module _ (t text : List ℕ) where
  pub read_refused : (n : ℕ) → n ≡ read_triples_answer t text → (n ≡ 0 → ⊥) → ReadTriplesPromise t text n t
  read_refused n e h = record { answer_is = e; words_are = sym (read_keeps t text (λ z. h (e ∙ z))) }

  pub read_done : 0 ≡ read_triples_answer t text → (t' : List ℕ) → t' ≡ padded (length t) (text_words product text)
      → ReadTriplesPromise t text 0 t'
  read_done e t' h = record { answer_is = e; words_are = h ∙ sym (read_holds t text (sym e)) }

  -- 1.
  pub read_bad_size : bad_size product t ≡ true → 1 ≡ read_triples_answer t text
  read_bad_size e = sym (ap (λ b. or_else b 1 (first_or (text_tests text (length t)) (last text))) e)

  -- The refusal of the text, or what comes after it.
  module _ (size : bad_size product t ≡ false) {r : ℕ} (e : r ≡ text_refusal text (length t)) where
    read_sized : read_triples_answer t text ≡ first_or (text_tests text (length t)) (last text)
    read_sized = ap (λ b. or_else b 1 (first_or (text_tests text (length t)) (last text))) size

    pub read_text_refused : (r ≡ 0 → ⊥) → r ≡ read_triples_answer t text
    read_text_refused h = sym (read_sized ∙ (first_stops (text_tests text (length t)) (last text) (λ z. h (e ∙ z)) ∙ sym e))

    module _ (z : r ≡ 0) (work : List ℕ) (w : work ≡ padded (length t) (text_words product text)) where
      fits : length (text_words product text) ≤ length t
      fits =
          let many : Bool = ltb (length t) (length (text_words product text)) in
          let p = passed_link (outside_profile top text) 15 (or_else many 11 0) 0 (omega arith) (sym e ∙ z) in
          ltb-false (length t) (length (text_words product text)) (is_false (passed_link many 11 0 0 (omega arith) p.1).0)

      pub work_length : length work ≡ length t
      work_length = ap length w ∙ padded_length (length t) (text_words product text) fits

      pub work_answer : {a : ℕ} → a ≡ table_refusal product work 0 → a ≡ read_triples_answer t text
      work_answer q = q ∙ (ap (λ l. table_refusal product l 0) w ∙ (held_checked text (length t) size fits
          ∙ sym (read_sized ∙ rest_answers (text_tests text (length t)) tt (last text) (sym e ∙ z))))
