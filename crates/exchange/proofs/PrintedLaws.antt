-- What is put for a program: with room for the longest, 13 cannot come. Assumes nothing.
use Prim.Native.Nat.{ℕ, ◌≤◌}
use mathlib.Core.Path.{◌≡◌, refl, sym, ap, subst, ◌∙◌}
use mathlib.Core.Bool.{cond}
use mathlib.Core.List.{List, [], ◌++◌}
use native.Mathlib.Omega.{arith}
use native.Mathlib.Decide.{ℕ_discrete}
use lib.Dec.{eqb, ltb}
use Rattle.std.proofs.Common.{Result, Ok, Err}
use Rattle.std.specs.Result.{result_unwrap_or}
use lib.ListN.{length, take, drop, length-append}
use lib.Seq.{take_at}
use borrow.Author.Tests.{le-ltb}
use Rattle.rdfs.specs.Numbers.{product}
use Rattle.rdfs.specs.Words.{filled}
use Rattle.rdfs.specs.Refusals.{or_else}
use Rattle.rdfs.specs.Register.{Table}
use Rattle.rdfs.proofs.Tickets.Steps.{table_passes}
use Rattle.table.proofs.Filled.{filled_within}
use Rattle.writing.specs.WritePromise.{table_image, write_answer}
use Rattle.writing.proofs.WriteCall.{table_writing}
use Rattle.writing.proofs.Measuring.{image_small}
use Rattle.reading.specs.ReadPromise.{read_answer, read_words}
use Rattle.triples.specs.WriteTriples.{table_text, write_triples_answer, write_triples_length, length_of}
use Rattle.triples.specs.ReadTriples.{read_triples_answer, read_triples_words}
use Rattle.table.specs.declared.refusals.Refusal.{Refusal}
use Rattle.triples.proofs.TriplesTheorems.{text_short}
use Rattle.exchange.specs.ToText.{room, to_text_length, ToTextPromise}
use Rattle.exchange.specs.ToImage.{imaged_length, ToImagePromise}
use Rattle.exchange.specs.Printed.{longest_text, longest_image, text_printed, image_printed}
use Rattle.exchange.specs.declared.Rejected.{Rejected}
use Rattle.exchange.proofs.Between.{refused_keeps, passed_leaves, read_table, read_text_table}

-- Bytes printed: they stand at the start of others.
pub record Put (size : ℕ) (left printed : List ℕ) : Type 0 where
  pub there : take size left ≡ printed
  pub within : size ≤ length left

-- Reading answers n, and writing what was read, the bytes D, answers a.
module _ (n a : ℕ) (D output : List ℕ) (accepted : n ≡ 0 → (a ≡ 0) × (length D ≤ length output)) (size : ℕ) (left : List ℕ)
    (long : size ≡ cond (eqb n 0) (cond (eqb a 0) (length D) 0) 0)
    (bytes : left ≡ cond (eqb n 0) (cond (eqb a 0) (D ++ drop (length D) output) output) output) where
  written : n ≡ 0 → Put size left D
  written z =
      let whole : left ≡ D ++ drop (length D) output =
      bytes ∙ (passed_leaves n (cond (eqb a 0) (D ++ drop (length D) output) output) output z
      ∙ passed_leaves a (D ++ drop (length D) output) output (accepted z).0) in
      let all : size ≡ length D =
      long ∙ (passed_leaves n (cond (eqb a 0) (length D) 0) 0 z ∙ passed_leaves a (length D) 0 (accepted z).0) in
      record {
        there = ap (take size) whole ∙ take_at D (drop (length D) output) size (sym all);
        within = omega (arith, all, ap length whole, length-append D (drop (length D) output));
      }

  pub printed_put : Put size left (cond (eqb n 0) D [])
  printed_put = elim (ℕ_discrete n 0) [
    | yes z ↦ subst (Put size left) (sym (passed_leaves n D [] z)) (written z)
    | no h ↦
        let zero : size ≡ 0 = long ∙ refused_keeps n (cond (eqb a 0) (length D) 0) 0 h in
        subst (Put size left) (sym (refused_keeps n D [] h))
        (record { there = ap (λ m. take m left) zero; within = omega (arith, zero) })
  ]

-- A consistent table is written into an output that is long enough.
passed : (t : List ℕ) → Table product t → (long : ℕ) (output : List ℕ) → long ≤ length output
    → or_else (ltb (length output) long) 13 0 ≡ 0
passed t h long output fits = ap (λ b. or_else b 13 0) (le-ltb (length output) long fits)

pub text_fits : (t : List ℕ) → Table product t → length (table_text t) ≤ longest_text
text_fits t h = omega (arith, text_short t h, filled_within product t h.laid, h.fits)

-- Whatever the output, no length above the longest is answered.
pub to_text_short : (image output : List ℕ) → to_text_length image output ≤ longest_text
to_text_short image output =
    let t : List ℕ = read_words room image in
    let n : ℕ = read_answer room image in
    let a : ℕ = write_triples_answer t output in
    elim (ℕ_discrete n 0) [
      | yes z ↦
          let long : length (table_text t) ≤ longest_text = text_fits t (read_table image n refl z refl) in
          subst (λ m. m ≤ longest_text) (sym (passed_leaves n (write_triples_length t output) 0 z)) (elim (ℕ_discrete a 0) [
            | yes y ↦ subst (λ m. m ≤ longest_text) (sym (passed_leaves a (length (table_text t)) 0 y)) long
            | no h ↦ subst (λ m. m ≤ longest_text) (sym (refused_keeps a (length (table_text t)) 0 h)) (omega arith)
          ])
      | no h ↦ subst (λ m. m ≤ longest_text) (sym (refused_keeps n (write_triples_length t output) 0 h)) (omega arith)
    ]

module _ (image output : List ℕ) (fits : longest_text ≤ length output) where
  abbrev t : List ℕ
  t = read_words room image

  text_accepted : read_answer room image ≡ 0 → (write_triples_answer t output ≡ 0) × (length (table_text t) ≤ length output)
  text_accepted z =
      let table : Table product t = read_table image (read_answer room image) refl z refl in
      let short : length (table_text t) ≤ length output = omega (arith, text_fits t table, fits) in (
        table_passes product t table (or_else (ltb (length output) (length (table_text t))) 13 0)
            ∙ passed t table (length (table_text t)) output short,
        short,
      )

  pub text_put : (text : Result ℕ Refusal) (left : List ℕ) → ToTextPromise image output text left
      → Put (length_of text) left (text_printed image)
  text_put text left p =
      printed_put (read_answer room image) (write_triples_answer t output) (table_text t) output text_accepted (length_of text)
      left p.length_is p.bytes_are

module _ (text output : List ℕ) (fits : longest_image ≤ length output) where
  abbrev v : List ℕ
  v = read_triples_words room text

  image_accepted : read_triples_answer room text ≡ 0 → (write_answer v output ≡ 0) × (length (table_image v) ≤ length output)
  image_accepted z =
      let table : Table product v = read_text_table text (read_triples_answer room text) refl z refl in
      let short : length (table_image v) ≤ length output =
      omega (arith, image_small v (length (filled v)) (table_writing table (length (filled v)) refl).writable, fits) in (
        table_passes product v table (or_else (ltb (length output) (length (table_image v))) 13 0)
            ∙ passed v table (length (table_image v)) output short,
        short,
      )

  pub image_put : (imaged : Result ℕ Rejected) (left : List ℕ) → ToImagePromise text output imaged left
      → Put (imaged_length imaged) left (image_printed text)
  image_put imaged left p =
      printed_put (read_triples_answer room text) (write_answer v output) (table_image v) output image_accepted
      (imaged_length imaged) left
      p.length_is p.bytes_are

-- What `unwrap_or` makes of an answer is its length.
pub put_as : {size other : ℕ} {left printed : List ℕ} → other ≡ size → Put size left printed → Put other left printed
put_as {left = left} {printed = printed} e p = subst (λ n. Put n left printed) (sym e) p

pub text_told : (text : Result ℕ Refusal) → result_unwrap_or text 0 ≡ length_of text
text_told (Ok length) = refl
text_told (Err refusal) = refl

pub image_told : (imaged : Result ℕ Rejected) → result_unwrap_or imaged 0 ≡ imaged_length imaged
image_told (Ok length) = refl
image_told (Err rejected) = refl
