-- What is proved of turning images and texts into each other, from the contracts: `ToTextPromise` for `to_text`, which answers
-- text and leaves the bytes out; `ToImagePromise` for `to_image`. Assumes nothing.
use Prim.Native.Nat.{ℕ, ◌≤◌}
use mathlib.Core.Path.{◌≡◌, refl, sym, ap, subst, ◌∙◌}
use mathlib.Core.Bool.{Bool, true, false, cond}
use mathlib.Core.List.{List, [], ◌∷◌, ◌++◌}
use native.Mathlib.Omega.{arith}
use native.Mathlib.Decide.{ℕ_discrete}
use lib.Dec.{T, eqb, ltb}
use Rattle.std.proofs.Common.{Result}
use lib.ListN.{length, take, drop}
use borrow.Author.Tests.{le-ltb}
use Rattle.rdfs.specs.Numbers.{product}
use Rattle.rdfs.specs.Lists.{any}
use Rattle.rdfs.specs.Words.{facts}
use Rattle.rdfs.specs.Refusals.{or_else, first_or, first_true, inconsistent}
use Rattle.rdfs.specs.Register.{Table}
use Rattle.rdfs.proofs.Tickets.FirstTrue.{distinct, rest_answers, first_stops}
use Rattle.rdfs.proofs.Tickets.Steps.{table_passes}
use Rattle.contents.specs.ImageForm.{TenEntries, image_form}
use Rattle.contents.specs.Reading.{malformed}
use Rattle.writing.specs.WritePromise.{table_image, write_answer, write_length, write_bytes}
use Rattle.writing.proofs.WriteCall.{write_taken}
use Rattle.reading.specs.ReadPromise.{image_words, image_tests, read_answer, read_words}
use Rattle.reading.proofs.ReadCall.{read_length}
use Rattle.image.proofs.ImageTheorems.{read_writes}
use Rattle.triples.specs.Lone.{is_lone}
use Rattle.triples.specs.TextRead.{outside_profile, text_words}
use Rattle.triples.specs.WriteTriples.{table_text, write_triples_answer, write_triples_length, write_triples_bytes, length_of}
use Rattle.triples.specs.ReadTriples.{text_tests, read_triples_answer, read_triples_words}
use Rattle.table.specs.Refused.{answer_of}
use Rattle.table.specs.declared.refusals.Refusal.{Refusal}
use Rattle.triples.proofs.WriteAnswer.{written_taken}
use Rattle.triples.proofs.TriplesTheorems.{reads_as_complete}
use Rattle.exchange.specs.ToText.{room, ToTextPromise}
use Rattle.exchange.specs.ToImage.{to_image_answer, imaged_answer, imaged_length, ToImagePromise}
use Rattle.exchange.specs.declared.Rejected.{Rejected}
use Rattle.exchange.proofs.Between.{refused_keeps, passed_leaves, read_table, read_text_table}

-- Of two refusals in turn: 0 is the answer only if neither refuses.
both_pass : (n a : ℕ) → cond (eqb n 0) a n ≡ 0 → (n ≡ 0) × (a ≡ 0)
both_pass n a e = elim (ℕ_discrete n 0) [
  | yes z ↦ (z, sym (passed_leaves n a n z) ∙ e)
  | no h ↦ absurd (h (sym (refused_keeps n a n h) ∙ e))
]

-- Refusals in turn, those of a list and then a: the first of all.
in_turn : (l : List (ℕ × Bool)) → T (distinct l) → (a rest : ℕ) → (first_true l ≡ 0 → a ≡ rest)
    → cond (eqb (first_true l) 0) a (first_true l) ≡ first_or l rest
in_turn l d a rest same = elim (ℕ_discrete (first_true l) 0) [
  | yes z ↦ passed_leaves (first_true l) a (first_true l) z ∙ (same z ∙ sym (rest_answers l d rest z))
  | no h ↦ refused_keeps (first_true l) a (first_true l) h ∙ sym (first_stops l rest h)
]

-- Reading answers n, and writing what was read, the bytes D, answers a: refused, the size is 0 and the output as it was.
pub refusal_keeps : (n a : ℕ) (D output : List ℕ) → (cond (eqb n 0) a n ≡ 0 → ⊥) → (size : ℕ) (left : List ℕ)
    → size ≡ cond (eqb n 0) (cond (eqb a 0) (length D) 0) 0
    → left ≡ cond (eqb n 0) (cond (eqb a 0) (D ++ drop (length D) output) output) output → (size ≡ 0) × (left ≡ output)
refusal_keeps n a D output h size left long bytes = elim (ℕ_discrete n 0) [
  | yes z ↦
      let no : a ≡ 0 → ⊥ = λ q. h (passed_leaves n a n z ∙ q) in (
        long ∙ (passed_leaves n (cond (eqb a 0) (length D) 0) 0 z ∙ refused_keeps a (length D) 0 no),
        bytes ∙ (passed_leaves n (cond (eqb a 0) (D ++ drop (length D) output) output) output z
            ∙ refused_keeps a (D ++ drop (length D) output) output no),
      )
  | no m ↦ (
    long ∙ refused_keeps n (cond (eqb a 0) (length D) 0) 0 m,
    bytes ∙ refused_keeps n (cond (eqb a 0) (D ++ drop (length D) output) output) output m,
  )
]

module _ (image output : List ℕ) (text : Result ℕ Refusal) (out : List ℕ) (p : ToTextPromise image output text out) where
  abbrev t : List ℕ
  t = read_words room image

  -- The answer is the first of these refusals; 0 if there is none.
  pub to_text_order : answer_of text ≡ or_else (malformed product (image_form image) image) 12
      (or_else (ltb product.most (length (image_words image))) 11
      (or_else (inconsistent product (image_words image)) 3 (or_else (ltb (length output) (length (table_text t))) 13 0)))
  to_text_order =
      let l : List (ℕ × Bool) =
      image_tests image product.most ++ ((3, inconsistent product (image_words image)) ∷ []) in
      let last : ℕ = or_else (ltb (length output) (length (table_text t))) 13 0 in
      p.answer_is ∙ in_turn l tt (write_triples_answer t output) last
      (λ z. table_passes product t (read_table image (read_answer room image) refl z refl) last)

  -- Refused, the length is 0 and every byte is as it was.
  pub to_text_refusal_keeps : (answer_of text ≡ 0 → ⊥) → (length_of text ≡ 0) × (out ≡ output)
  to_text_refusal_keeps h =
      refusal_keeps (read_answer room image) (write_triples_answer t output) (table_text t) output (λ z. h (p.answer_is ∙ z))
      (length_of text) out p.length_is p.bytes_are

  module _ (z : answer_of text ≡ 0) where
    passed : (read_answer room image ≡ 0) × (write_triples_answer t output ≡ 0)
    passed = both_pass (read_answer room image) (write_triples_answer t output) (sym p.answer_is ∙ z)

    -- Accepted, the bytes cut to the length answered are the text of the image's table.
    pub to_text_is : take (length_of text) out ≡ table_text t
    to_text_is =
        ap (λ n. take n out) (p.length_is ∙ passed_leaves (read_answer room image) (write_triples_length t output) 0 passed.0)
        ∙ (ap (take (write_triples_length t output)) (p.bytes_are
        ∙ passed_leaves (read_answer room image) (write_triples_bytes t output) output passed.0)
        ∙ written_taken t output passed.1)

    -- Turned into an image again, into any output that is long enough, it is the image that writing gives for the table, if no
    -- literal is lone.
    pub text_image_written : any (is_lone (facts product t)) (facts product t) ≡ false → (output' : List ℕ) (imaged : Result ℕ Rejected)
        (out' : List ℕ) → ToImagePromise (take (length_of text) out) output' imaged out' → length (table_image t) ≤ length output'
        → (imaged_answer imaged ≡ 0) × (take (imaged_length imaged) out' ≡ table_image t)
    text_image_written lone output' imaged out' q short =
        let table : Table product t = read_table image (read_answer room image) refl passed.0 refl in
        let back = reads_as_complete room (table_text t) t record {
          table = table;
          size = read_length room image;
          no_lone = lone;
          only = λ l i. i;
          each = λ l i. i;
        } in
        let again : read_triples_answer room (take (length_of text) out) ≡ 0 = ap (read_triples_answer room) to_text_is ∙ back.0 in
        let words : read_triples_words room (take (length_of text) out) ≡ t = ap (read_triples_words room) to_text_is ∙ back.1 in
        let done : write_answer t output' ≡ 0 =
        table_passes product t table (or_else (ltb (length output') (length (table_image t))) 13 0)
        ∙ ap (λ b. or_else b 13 0) (le-ltb (length output') (length (table_image t)) short) in
        let n : ℕ = read_triples_answer room (take (length_of text) out) in
        let v : List ℕ = read_triples_words room (take (length_of text) out) in
        let long : imaged_length imaged ≡ write_length t output' =
        q.length_is ∙ (passed_leaves n (write_length v output') 0 again ∙ ap (λ w. write_length w output') words) in
        let bytes : out' ≡ write_bytes t output' =
        q.bytes_are ∙ (passed_leaves n (write_bytes v output') output' again ∙ ap (λ w. write_bytes w output') words) in (
          q.answer_is ∙ (passed_leaves n (write_answer v output') n again ∙ (ap (λ w. write_answer w output') words ∙ done)),
          ap (λ m. take m out') long ∙ (ap (take (write_length t output')) bytes ∙ write_taken t output' done),
        )

    -- That is the image it came from, if this has other than ten entries.
    pub text_image_again : any (is_lone (facts product t)) (facts product t) ≡ false → (TenEntries image → ⊥) → (output' : List ℕ)
        (imaged : Result ℕ Rejected) (out' : List ℕ) → ToImagePromise (take (length_of text) out) output' imaged out'
        → length image ≤ length output' → (imaged_answer imaged ≡ 0) × (take (imaged_length imaged) out' ≡ image)
    text_image_again lone others output' imaged out' q fits =
        let same : image ≡ table_image t = (read_writes room image (sym passed.0) others).0 in
        let done = text_image_written lone output' imaged out' q (subst (λ l. length l ≤ length output') same fits) in
        (done.0, done.1 ∙ sym same)

module _ (text output : List ℕ) where
  abbrev v : List ℕ
  v = read_triples_words room text

  abbrev last : ℕ
  last = or_else (ltb (length output) (length (table_image v))) 13 0

  -- A text that was read is written, or the output is too short.
  read_written : read_triples_answer room text ≡ 0 → write_answer v output ≡ last
  read_written z = table_passes product v (read_text_table text (read_triples_answer room text) refl z refl) last

  -- An answer of 3 is reading's.
  pub third_from_reading : to_image_answer text output ≡ 3 → read_triples_answer room text ≡ 3
  third_from_reading e =
      let n : ℕ = read_triples_answer room text in
      elim (ℕ_discrete n 0) [
        | yes z ↦ absurd (never (ltb (length output) (length (table_image v)))
            (sym (passed_leaves n (write_answer v output) n z ∙ read_written z) ∙ e))
        | no h ↦ sym (refused_keeps n (write_answer v output) n h) ∙ e
      ]
    where
      never : (b : Bool) → or_else b 13 0 ≡ 3 → ⊥
      never true q = omega (arith, q)
      never false q = omega (arith, q)

  -- The answer is the first of these refusals; 0 if there is none.
  pub to_image_order : (imaged : Result ℕ Rejected) (out : List ℕ) → ToImagePromise text output imaged out
      → imaged_answer imaged ≡ or_else (outside_profile product.top text) 15
      (or_else (ltb product.most (length (text_words product text))) 11
      (or_else (inconsistent product (text_words product text)) 3 (or_else (ltb (length output) (length (table_image v))) 13 0)))
  to_image_order imaged out p =
      let l : List (ℕ × Bool) =
      text_tests text product.most ++ ((3, inconsistent product (text_words product text)) ∷ []) in
      p.answer_is ∙ in_turn l tt (write_answer v output) last read_written

  -- Refused, the image's length is 0 and every byte is as it was.
  pub to_image_refusal_keeps : (imaged : Result ℕ Rejected) (out : List ℕ) → ToImagePromise text output imaged out
      → (imaged_answer imaged ≡ 0 → ⊥) → (imaged_length imaged ≡ 0) × (out ≡ output)
  to_image_refusal_keeps imaged out p h =
      refusal_keeps (read_triples_answer room text) (write_answer v output) (table_image v) output (λ z. h (p.answer_is ∙ z))
      (imaged_length imaged) out p.length_is p.bytes_are
