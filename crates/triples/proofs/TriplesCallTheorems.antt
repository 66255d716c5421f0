-- What is proved of the calls `write_triples` and `read_triples`. All that is known of a call is its contract:
-- `WriteTriplesPromise` for `write_triples`, which answers w and leaves the bytes out; `ReadTriplesPromise` for `read_triples`,
-- which answers r and leaves the words v. Assumes nothing.
use Prim.Native.Nat.{ℕ, ◌*◌, ◌≤◌}
use mathlib.Core.Path.{◌≡◌, sym, ap, subst, ◌∙◌}
use mathlib.Core.Bool.{false}
use mathlib.Core.List.{List}
use native.Mathlib.Omega.{arith}
use native.Mathlib.Decide.{ℕ_discrete}
use lib.Dec.{ltb}
use Rattle.std.proofs.Common.{Result}
use lib.ListN.{length, take}
use Rattle.rdfs.specs.Numbers.{product}
use Rattle.rdfs.specs.Lists.{◌⊆◌, any}
use Rattle.rdfs.specs.Words.{filled, facts, words, padded}
use Rattle.rdfs.specs.Refusals.{or_else, bad_size, bad_layout, inconsistent}
use Rattle.rdfs.specs.Register.{Table}
use Rattle.triples.specs.TextRead.{cut_after, outside_profile, text_words}
use Rattle.triples.specs.Lone.{is_lone, without_lone, ReadsAs}
use Rattle.triples.specs.WriteTriples.{table_text, write_triples_length, length_of, WriteTriplesPromise}
use Rattle.triples.specs.ReadTriples.{read_triples_answer, read_triples_words, ReadTriplesPromise}
use Rattle.table.specs.Refused.{answer_of}
use Rattle.table.specs.declared.refusals.Refusal.{Refusal}
use Rattle.triples.proofs.Written.{table_words, no_lone_same}
use Rattle.triples.proofs.WriteAnswer.{written_parts, written_taken, written_length, written_refused}
use Rattle.triples.proofs.ReadAnswer.{read_keeps}
use Rattle.triples.proofs.AnyOrder.{any_order_answer, any_order_words}
use Rattle.triples.proofs.TriplesTheorems.{text_in_profile, text_reads, text_short, reads_as_sound, reads_as_complete}

module _ (t output : List ℕ) (w : Result ℕ Refusal) (out : List ℕ) (p : WriteTriplesPromise t output w out) where
  -- The answer is the first of 1, 2, 3, 13 whose condition holds, or 0.
  pub write_triples_order : answer_of w ≡ or_else (bad_size product t) 1 (or_else (bad_layout product t) 2
      (or_else (inconsistent product t) 3 (or_else (ltb (length output) (length (table_text t))) 13 0)))
  write_triples_order = p.answer_is

  -- Refused, the length is 0 and every byte is as it was.
  pub write_triples_refusal_keeps : (answer_of w ≡ 0 → ⊥) → (length_of w ≡ 0) × (out ≡ output)
  write_triples_refusal_keeps h =
      let k = written_refused t output (λ z. h (p.answer_is ∙ z)) in
      (p.length_is ∙ k.0, p.bytes_are ∙ k.1)

  -- Accepted: the table is consistent, and the bytes, cut to the length answered, are its text.
  accepted_table : answer_of w ≡ 0 → Table product t
  accepted_table z = (written_parts t output (sym p.answer_is ∙ z)).0

  saved : answer_of w ≡ 0 → take (length_of w) out ≡ table_text t
  saved z =
      let cut : take (length_of w) out ≡ take (write_triples_length t output) out = ap (λ n. take n out) p.length_is in
      cut ∙ (ap (take (write_triples_length t output)) p.bytes_are ∙ written_taken t output (sym p.answer_is ∙ z))

  -- A text that was written is inside the profile.
  pub write_triples_in_profile : answer_of w ≡ 0 → outside_profile product.top (take (length_of w) out) ≡ false
  write_triples_in_profile z = ap (outside_profile product.top) (saved z) ∙ text_in_profile t (accepted_table z)

  -- It is read into any table that has room, of any allowed length: answer 0, the facts but for lone literals, then zeros.
  pub write_triples_drops_lone : answer_of w ≡ 0 → (u : List ℕ) (r : ℕ) (v : List ℕ)
      → ReadTriplesPromise u (take (length_of w) out) r v → bad_size product u ≡ false
      → length (words product (without_lone (facts product t))) ≤ length u
      → (r ≡ 0) × (v ≡ padded (length u) (words product (without_lone (facts product t))))
  write_triples_drops_lone z u r v q size room =
      let back = text_reads t (accepted_table z) u size room in (
        q.answer_is ∙ (ap (read_triples_answer u) (saved z) ∙ back.0),
        q.words_are ∙ (ap (read_triples_words u) (saved z) ∙ back.1),
      )

  -- Where no literal is lone, all the facts.
  pub write_triples_reads_back : answer_of w ≡ 0 → any (is_lone (facts product t)) (facts product t) ≡ false
      → (u : List ℕ) (r : ℕ) (v : List ℕ) → ReadTriplesPromise u (take (length_of w) out) r v → bad_size product u ≡ false
      → length (filled t) ≤ length u → (r ≡ 0) × (v ≡ padded (length u) (filled t))
  write_triples_reads_back z n u r v q size room =
      let same : words product (without_lone (facts product t)) ≡ filled t =
      ap (words product) (no_lone_same (facts product t) n) ∙ table_words t (accepted_table z) in
      let back = write_triples_drops_lone z u r v q size (subst (λ l. length l ≤ length u) (sym same) room) in
      (back.0, back.1 ∙ ap (padded (length u)) same)

  -- A text has at most 154 bytes for each fact.
  pub write_triples_short : length_of w ≤ 154 * length (filled t)
  write_triples_short = elim (ℕ_discrete (answer_of w) 0) [
    | yes z ↦ omega (
      arith,
      p.length_is,
      written_length t output (sym p.answer_is ∙ z),
      text_short t (accepted_table z),
    )
    | no h ↦ omega (arith, (write_triples_refusal_keeps h).0)
  ]

module _ (u text : List ℕ) (r : ℕ) (v : List ℕ) (p : ReadTriplesPromise u text r v) where
  -- The answer is the first of 1, 15, 11, 3 whose condition holds, or 0.
  pub read_triples_order : r ≡ or_else (bad_size product u) 1 (or_else (outside_profile product.top text) 15
      (or_else (ltb (length u) (length (text_words product text))) 11 (or_else (inconsistent product (text_words product text)) 3 0)))
  read_triples_order = p.answer_is

  -- Refused, every word is as it was.
  pub read_triples_refusal_keeps : (r ≡ 0 → ⊥) → v ≡ u
  read_triples_refusal_keeps h = p.words_are ∙ read_keeps u text (λ z. h (p.answer_is ∙ z))

  -- A text is read only as a table whose text has its lines, each at least once.
  pub read_triples_sound : r ≡ 0 → ReadsAs u text v
  read_triples_sound z = subst (ReadsAs u text) (sym p.words_are) (reads_as_sound u text (sym p.answer_is ∙ z))

  -- Every text that can be read so is.
  pub read_triples_complete : (t : List ℕ) → ReadsAs u text t → (r ≡ 0) × (v ≡ t)
  read_triples_complete t h = let q = reads_as_complete u text t h in (p.answer_is ∙ q.0, p.words_are ∙ q.1)

  -- Another text with the same lines, in any order, gets the same answer, and if it is 0, the same words.
  pub read_triples_any_order : (u' text' : List ℕ) (r' : ℕ) (v' : List ℕ) → ReadTriplesPromise u' text' r' v'
      → length u ≡ length u' → cut_after 10 text ⊆ cut_after 10 text' → cut_after 10 text' ⊆ cut_after 10 text
      → (r ≡ r') × (r ≡ 0 → v ≡ v')
  read_triples_any_order u' text' r' v' q e to from = (
    p.answer_is ∙ (any_order_answer text text' to from u u' e ∙ sym q.answer_is),
    λ z. p.words_are ∙ (any_order_words text text' to from u u' e (sym p.answer_is ∙ z) ∙ sym q.words_are),
  )
