-- What is proved of the host's calls on texts: their numbers tell the answer, the place and the length, the place names the first
-- broken rule for 3 and none else, and a refusal leaves all as it was. All that is known of a call's number r and of the bytes v
-- that it leaves is its contract. Assumes nothing.
use Prim.Native.Nat.{ℕ, ◌<◌}
use mathlib.Core.Path.{◌≡◌, refl, sym, ap, subst, ◌∙◌}
use mathlib.Core.Bool.{cond}
use mathlib.Core.List.{List}
use native.Mathlib.Omega.{arith}
use native.Mathlib.Decide.{ℕ_discrete}
use lib.Dec.{eqb, ltb, lit<}
use lib.ListN.{length}
use Rattle.rdfs.specs.Numbers.{product}
use Rattle.rdfs.specs.Words.{facts}
use Rattle.rdfs.specs.Refusals.{bad_size, inconsistent}
use Rattle.writing.specs.WritePromise.{table_image, write_answer}
use Rattle.reading.specs.ReadPromise.{read_answer, read_words}
use Rattle.triples.specs.TextRead.{outside_profile, text_words}
use Rattle.triples.specs.WriteTriples.{table_text, write_triples_answer}
use Rattle.triples.specs.ReadTriples.{read_triples_answer, read_triples_words}
use Rattle.exchange.specs.ToText.{room, to_text_answer, to_text_length}
use Rattle.exchange.specs.ToImage.{text_graph, to_image_answer, to_image_length}
use Rattle.exchange.proofs.Between.{refused_keeps, passed_leaves}
use Rattle.exchange.proofs.BrokenLaws.{broken_inconsistent}
use Rattle.exchange.proofs.PlaceLaws.{NamesFirst, place_few, place_one, place_none, place_names}
use Rattle.exchange.proofs.ExchangeTheorems.{refusal_keeps, third_from_reading}
use Rattle.packing.specs.Packed.{sixteen_bits, packed, answer_in, length_in}
use Rattle.vimelosa.specs.HostCheck.{place_in}
use Rattle.packing.specs.Packed.{text_length_in}
use Rattle.vimelosa.specs.HostTriples.{HostWriteTriplesPromise, HostReadTriplesPromise}
use Rattle.host_theorems.proofs.Saved.{else_small, read_small, table_small}

-- Of two answers in turn.
both_small : (n a : ℕ) → n < sixteen_bits → a < sixteen_bits → cond (eqb n 0) a n < sixteen_bits
both_small n a p q = elim (ℕ_discrete n 0) [
  | yes z ↦ subst (λ m. m < sixteen_bits) (sym (passed_leaves n a n z)) q
  | no h ↦ subst (λ m. m < sixteen_bits) (sym (refused_keeps n a n h)) p
]

module _ (image output : List ℕ) (r : ℕ) (v : List ℕ) (p : HostWriteTriplesPromise image output r v) where
  small : to_text_answer image output < sixteen_bits
  small = both_small (read_answer room image) (write_triples_answer (read_words room image) output) (read_small image)
      (table_small (read_words room image) _ (else_small (ltb (length output) (length (table_text (read_words room image)))) 13 0
      (lit< tt) (lit< tt)))

  -- The number has the answer, and the text's length above it.
  pub write_triples_number : (answer_in r ≡ to_text_answer image output) × (text_length_in r ≡ to_text_length image output)
  write_triples_number =
      (ap answer_in p.number_is ∙ omega (arith, small), ap text_length_in p.number_is ∙ omega (arith, small))

  -- Refused, the length is 0 and every byte of the output is as it was.
  pub host_write_triples_keeps : (answer_in r ≡ 0 → ⊥) → (text_length_in r ≡ 0) × (v ≡ output)
  host_write_triples_keeps h =
      let told = write_triples_number in
      let w : List ℕ = read_words room image in
      let kept =
      refusal_keeps (read_answer room image) (write_triples_answer w output) (table_text w) output (λ z. h (told.0 ∙ z))
      (to_text_length image output) v refl p.bytes_are in
      (told.1 ∙ kept.0, kept.1)

module _ (text output : List ℕ) where
  read_text_small : read_triples_answer room text < sixteen_bits
  read_text_small =
      let l : List ℕ = text_words product text in
      else_small (bad_size product room) 1 _ (lit< tt) (else_small (outside_profile product.top text) 15 _ (lit< tt)
      (else_small (ltb (length room) (length l)) 11 _ (lit< tt) (else_small (inconsistent product l) 3 0 (lit< tt) (lit< tt))))

  image_small : to_image_answer text output < sixteen_bits
  image_small = both_small (read_triples_answer room text) (write_answer (read_triples_words room text) output) read_text_small
      (table_small (read_triples_words room text) _ (else_small (ltb (length output) (length (table_image
      (read_triples_words room text)))) 13 0 (lit< tt) (lit< tt)))

  module _ (r : ℕ) (v : List ℕ) (p : HostReadTriplesPromise text output r v) where
    -- The number has the answer, the place of the broken rule and the image's length.
    pub read_triples_number : (answer_in r ≡ to_image_answer text output) × (place_in r ≡ p.place)
        × (length_in r ≡ to_image_length text output)
    read_triples_number =
        let few = place_few p.rule in (
          ap answer_in p.number_is ∙ omega (arith, image_small),
          ap place_in p.number_is ∙ omega (arith, image_small, few),
          ap length_in p.number_is ∙ omega (arith, image_small, few),
        )

    -- Refused, the length is 0 and every byte of the output is as it was.
    pub host_read_triples_keeps : (answer_in r ≡ 0 → ⊥) → (length_in r ≡ 0) × (v ≡ output)
    host_read_triples_keeps h =
        let told = read_triples_number in
        let w : List ℕ = read_triples_words room text in
        let kept =
        refusal_keeps (read_triples_answer room text) (write_answer w output) (table_image w) output (λ z. h (told.0 ∙ z))
        (to_image_length text output) v refl p.bytes_are in
        (told.2 ∙ kept.0, kept.1)

    -- For 3 the place is that of the first rule that the text's graph breaks: it is broken, and each rule before it is met.
    pub read_triples_names_the_first_broken : answer_in r ≡ 3 → NamesFirst (text_graph text) (place_in r)
    read_triples_names_the_first_broken e =
        let told = read_triples_number in
        let third : read_triples_answer room text ≡ 3 = third_from_reading text output (sym told.0 ∙ e) in
        subst (NamesFirst (text_graph text)) (sym told.1) (place_names (facts product (text_words product text)) p.rule third
        (broken_inconsistent text third))

    -- For any other answer it is 0.
    pub read_triples_place_only_for_3 : (answer_in r ≡ 3 → ⊥) → place_in r ≡ 0
    read_triples_place_only_for_3 n =
        let told = read_triples_number in
        told.1 ∙ place_none p.rule (λ e. n (told.0 ∙ (refused_keeps (read_triples_answer room text)
        (write_answer (read_triples_words room text) output) (read_triples_answer room text) (λ z. omega (arith, e, z)) ∙ e)))

  -- No two numbers keep the promise for one text and one output.
  pub read_triples_one_number : (r s : ℕ) (v w : List ℕ) → HostReadTriplesPromise text output r v
      → HostReadTriplesPromise text output s w → r ≡ s
  read_triples_one_number r s v w p q =
      p.number_is ∙ (ap (λ n. packed (to_image_answer text output) n 0 (to_image_length text output)) (place_one p.rule q.rule)
      ∙ sym q.number_is)
