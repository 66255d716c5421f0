-- Demands 1 and 2 about writing and reading themselves. All that is known of a call is its contract: `WritePromise` for `write`,
-- which answers w and leaves the bytes out; `ReadPromise` for `read`, which answers r and leaves the words v; `BodyPromise` for
-- `body`. Assumes nothing.
use Prim.Native.Nat.{ℕ, ◌*◌, ◌≤◌}
use mathlib.Core.Path.{◌≡◌, refl, sym, ap, subst, ◌∙◌}
use mathlib.Core.Bool.{true, false, cond, ◌||◌, or-true}
use mathlib.Core.List.{List, ◌++◌}
use lib.Dec.{eqb, ltb, leb, lit≤}
use lib.ListN.{length, take, drop}
use denote.Ref.{Bor}
use borrow.Author.Tests.{ne_eqb}
use native.Mathlib.Omega.{arith}
use Rattle.rdfs.specs.Numbers.{product}
use Rattle.rdfs.specs.Lists.{◌∈◌}
use Rattle.rdfs.specs.Words.{fact, filled, padded}
use Rattle.rdfs.specs.Refusals.{or_else, bad_size, bad_layout, inconsistent, table_refusal}
use Rattle.rdfs.specs.Register.{Table}
use Rattle.rdfs.proofs.Tickets.FirstTrue.{passed_link}
use Rattle.rdfs.proofs.Tickets.Steps.{checked_table}
use Rattle.rdfs.proofs.Theorems.{product_sound}
use Rattle.std.specs.Prelude.{Result}
use Rattle.table.specs.declared.refusals.Refusal.{Refusal}
use Rattle.table.specs.Refused.{answer_of}
use Rattle.table.proofs.TestAnswers.{is_false}
use Rattle.table.proofs.Filled.{filled_within}
use Rattle.contents.specs.ImageForm.{Form, form, ten_form, TenEntries, image_form, fact_size, kinds}
use Rattle.contents.specs.Image.{fact_kind, body_of, image_of}
use Rattle.contents.specs.Reading.{Facts, HasEntries, start_at, count_at, words_of, malformed, bodiless, body_start, body_size}
use Rattle.contents.specs.BodyPromise.{IsPart, BodyPromise}
use Rattle.contents.proofs.FactsRead.{fact_kind_lem}
use Rattle.contents.proofs.RoundTrip.{all_entries, filled_facts}
use Rattle.contents.proofs.Product.{proper}
use Rattle.contents.proofs.ImageForms.{ten_legible, form_own, ten_own, ten_form_lem}
use Rattle.writing.specs.WritePromise.{table_image, write_answer, write_length, length_of, WritePromise}
use Rattle.writing.proofs.WriteCall.{write_done, write_parts, write_taken}
use Rattle.reading.specs.ReadPromise.{image_words, read_answer, read_words, ReadPromise}
use Rattle.reading.proofs.ReadCall.{read_refused}
use Rattle.image.proofs.ImageTheorems.{body_is_ids, form_reads_back, image_reads_back, table_reads_back}
use Rattle.image.proofs.ImageTheorems.{ReadAs, read_as, read_writes}

module _ (t output : List ℕ) (w : Result ℕ Refusal) (out : List ℕ) (p : WritePromise t output w out) where
  -- Demand 1: the answer is the first of 1, 2, 3, 13 whose condition holds, or 0.
  pub write_order : answer_of w ≡ or_else (bad_size product t) 1 (or_else (bad_layout product t) 2 (or_else (inconsistent product t) 3
      (or_else (ltb (length output) (length (table_image t))) 13 0)))
  write_order = p.0

  -- Demand 1: refused, the length is 0 and every byte is as it was.
  pub write_refusal_keeps : (answer_of w ≡ 0 → ⊥) → (length_of w ≡ 0) × (out ≡ output)
  write_refusal_keeps h =
      let image : List ℕ = table_image t in
      let no : eqb (write_answer t output) 0 ≡ false = ne_eqb (write_answer t output) 0 (λ z. h (p.0 ∙ z)) in
      (p.1 ∙ ap (λ b. cond b (length image) 0) no, p.2 ∙ ap (λ b. cond b (image ++ drop (length image) output) output) no)

  -- Accepted: the table is not refused, and the bytes, cut to the length answered, are its image.
  write_saved : answer_of w ≡ 0 → (0 ≡ table_refusal product t 0) × (take (length_of w) out ≡ table_image t)
  write_saved z =
      let e : write_answer t output ≡ 0 = sym p.0 ∙ z in
      let cut : take (length_of w) out ≡ take (write_length t output) out = ap (λ n. take n out) p.1 in
      ((write_parts t output e).0, cut ∙ (ap (take (write_length t output)) p.2 ∙ write_taken t output e))

  -- Demand 2: an image that was written is read into a table u of any allowed length that holds its facts: answer 0, the facts,
  -- then zeros.
  pub write_reads_back : answer_of w ≡ 0 → (u : List ℕ) (r : ℕ) (v : List ℕ) → ReadPromise u (take (length_of w) out) r v
      → bad_size product u ≡ false → length (filled t) ≤ length u → (r ≡ 0) × (v ≡ padded (length u) (filled t))
  write_reads_back z u r v q size h =
      let s = write_saved z in
      let back = image_reads_back t u s.0 size h in
      (q.0 ∙ (ap (read_answer u) s.1 ∙ sym back.0), q.1 ∙ (ap (read_words u) s.1 ∙ sym back.1))

  -- Into a table of as many words it is read as the very table.
  pub write_reads_same : answer_of w ≡ 0 → (u : List ℕ) (r : ℕ) (v : List ℕ) → ReadPromise u (take (length_of w) out) r v
      → length u ≡ length t → (r ≡ 0) × (v ≡ t)
  write_reads_same z u r v q h =
      let s = write_saved z in
      let table : Table product t = checked_table product t (sym s.0) in
      let later : ℕ = or_else (bad_layout product t) 2 (or_else (inconsistent product t) 3 0) in
      let sized : bad_size product t ≡ false =
      is_false (passed_link (bad_size product t) 1 later 0 (omega arith) (sym s.0)).0 in
      let size : bad_size product u ≡ false = ap (λ n. leb n 0 || ltb product.most n) h ∙ sized in
      let within : length (filled t) ≤ length t = filled_within product t table.laid in
      let fits : length (filled t) ≤ length u = subst (λ n. length (filled t) ≤ n) (sym h) within in
      ((write_reads_back z u r v q size fits).0, q.1 ∙ (ap (read_words u) s.1 ∙ sym (table_reads_back t u s.0 size (sym h))))

  -- What `body` hands out of it for a kind is the ids of that kind's facts, in order.
  pub write_body_ids : answer_of w ≡ 0 → (whole part : Bor (List ℕ)) → whole.now ≡ take (length_of w) out → (k : ℕ) → k ∈ kinds form
      → BodyPromise whole k part → part.now ≡ body_of product form (filled t) k
  write_body_ids z whole part e k i b =
      let s = write_saved z in
      let l : List ℕ = filled t in
      let f : Facts product l = filled_facts product product_sound t (checked_table product t (sym s.0)).laid in
      let part_of : Form → List ℕ → List ℕ = λ F m. take (body_size product F m k) (drop (body_start product F m k) m) in
      b.bytes ∙ (ap (λ m. part_of (image_form m) m) (e ∙ s.1)
      ∙ (ap (λ F. part_of F (table_image t)) (form_own product l)
      ∙ body_is_ids product form product_sound proper l f (all_entries product form (lit≤ tt) l) k i))

module _ (u bytes : List ℕ) (r : ℕ) (v : List ℕ) (p : ReadPromise u bytes r v) where
  -- Demand 1: the answer is the first of 1, 12, 11, 3 whose condition holds, or 0.
  pub read_order : r ≡ or_else (bad_size product u) 1 (or_else (malformed product (image_form bytes) bytes) 12
      (or_else (ltb (length u) (length (image_words bytes))) 11
      (or_else (inconsistent product (image_words bytes)) 3 0)))
  read_order = p.0

  -- Demand 1: refused, every word is as it was.
  pub read_refusal_keeps : (r ≡ 0 → ⊥) → v ≡ u
  read_refusal_keeps h = p.1 ∙ sym (read_refused u bytes r p.0 h).1

  -- Demand 2: bytes that were read are written again from the table read, into any output that is long enough, unless they have
  -- ten entries.
  pub read_writes_again : r ≡ 0 → (TenEntries bytes → ⊥) → (output : List ℕ) (w : Result ℕ Refusal) (out : List ℕ)
      → WritePromise v output w out
      → length bytes ≤ length output → (answer_of w ≡ 0) × (length_of w ≡ length bytes) × (take (length_of w) out ≡ bytes)
  read_writes_again z n output w out q h =
      let x = read_writes u bytes (sym z ∙ p.0) n in
      let image : bytes ≡ table_image v = x.0 ∙ ap table_image (sym p.1) in
      let table : Table product v = checked_table product v (ap (λ m. table_refusal product m 0) p.1 ∙ sym x.1) in
      let size : ℕ = length (table_image v) in
      let room : size ≤ length output = subst (λ m. length m ≤ length output) image h in
      let done = write_done v output table room size refl (table_image v ++ drop size output) refl in
      let cut : take (length_of w) out ≡ take (write_length v output) out = ap (λ n. take n out) q.1 in (
        q.0 ∙ sym done.0,
        q.1 ∙ (sym done.1 ∙ ap length (sym image)),
        cut ∙ (ap (take (write_length v output)) q.2 ∙ (write_taken v output (sym done.0) ∙ sym image)),
      )

-- Facts of other kinds than 11.
abbrev pub NoneExclusive : List ℕ → Type 0
NoneExclusive l = (w : ℕ) → w ∈ l → fact_kind product w ≡ 11 → ⊥

-- Bytes with ten entries, read into a table u, leave the words v: those that the bodies of the ten-entry form give, then zeros.
-- None is of kind 11, and the bytes are exactly the ten-entry image of the facts.
pub record TenRead (u bytes v : List ℕ) : Type 0 where
  pub words : v ≡ padded (length u) (words_of product ten_form bytes)
  pub none : NoneExclusive (filled v)
  pub image : bytes ≡ image_of product ten_form (filled v)

module _ (u bytes : List ℕ) (r : ℕ) (v : List ℕ) (p : ReadPromise u bytes r v) (ten : TenEntries bytes) where
  -- Ask 3: ten entries are no refusal: the answer is the first of 1, 12, 11, 3 whose condition holds in the ten-entry form, or 0.
  pub ten_order : r ≡ or_else (bad_size product u) 1 (or_else (malformed product ten_form bytes) 12
      (or_else (ltb (length u) (length (words_of product ten_form bytes))) 11
      (or_else (inconsistent product (words_of product ten_form bytes)) 3 0)))
  ten_order = p.0 ∙ ap (λ F. or_else (bad_size product u) 1 (or_else (malformed product F bytes) 12
      (or_else (ltb (length u) (length (words_of product F bytes))) 11 (or_else (inconsistent product
      (words_of product F bytes)) 3 0))))
      (ten_form_lem bytes ten)

  -- Ask 3: what a ten-entry image is read as.
  pub ten_reads : r ≡ 0 → TenRead u bytes v
  ten_reads z =
      let x : ReadAs u bytes ten_form = subst (ReadAs u bytes) (ten_form_lem bytes ten) (read_as u bytes (sym z ∙ p.0)) in
      let few : HasEntries product ten_form (filled v) = subst (λ m. HasEntries product ten_form (filled m)) (sym p.1)
      x.entries in
      record {
        words = p.1 ∙ x.words;
        none = λ w i e. omega (arith, few w i, e);
        image = x.image ∙ ap (λ m. image_of product ten_form (filled m)) (sym p.1);
      }

-- Ask 3: the ten-entry image of a table without facts of kind 11 is read as that table's facts.
pub ten_reads_back : (t : List ℕ) → 0 ≡ table_refusal product t 0 → NoneExclusive (filled t)
    → (u : List ℕ) (r : ℕ) (v : List ℕ) → ReadPromise u (image_of product ten_form (filled t)) r v → bad_size product u ≡ false
    → length (filled t) ≤ length u → (r ≡ 0) × (v ≡ padded (length u) (filled t))
ten_reads_back t e none u r v q size h =
    let few : HasEntries product ten_form (filled t) =
    λ w i. omega (arith, (fact_kind_lem (fact product.base w)).1, none w i) in
    let back = form_reads_back ten_form ten_legible.proper ten_own t u e few size h in
    (q.0 ∙ sym back.0, q.1 ∙ sym back.1)

-- Ask 3: the body of kind 11 of a ten-entry image is the empty part at the end.
pub ten_body_end : (whole part : Bor (List ℕ)) → TenEntries whole.now → BodyPromise whole 11 part
    → IsPart whole part (length whole.now) 0
ten_body_end whole part ten b =
    let bytes : List ℕ = whole.now in
    let here = subst (λ F. IsPart whole part (body_start product F bytes 11) (body_size product F bytes 11))
    (ten_form_lem bytes ten) b in
    let none : bodiless product ten_form bytes 11 ≡ true = or-true (malformed product ten_form bytes) in
    subst (λ m. IsPart whole part (cond m (length bytes) (start_at ten_form bytes 11))
    (cond m 0 (fact_size ten_form 11 * count_at ten_form bytes 11))) none here
