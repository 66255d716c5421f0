-- The contents and the length of an image by the ends of its kinds: kind by kind, and of a table. Assumes nothing.
use Prim.Native.Nat.{ℕ, zero, suc, ◌+◌, ◌*◌, ◌-◌, ◌^◌, ◌≤◌, ◌<◌}
use mathlib.Core.Path.{◌≡◌, refl, sym, ap, subst, ◌∙◌}
use mathlib.Core.List.{List, [], ◌∷◌, ◌++◌}
use native.Mathlib.Omega.{arith}
use lib.ListN.{length, get_or, take, length-append}
use lib.Seq.{take_at}
use Rattle.rdfs.specs.Numbers.{product}
use Rattle.rdfs.specs.Words.{filled}
use Rattle.table.specs.Found.{below}
use Rattle.table.specs.Parts.{word_of}
use Rattle.contents.specs.ImageForm.{Form, byte_values, fact_size, entry_size, first_body, kinds_after, kinds}
use Rattle.contents.specs.Legible.{widest}
use Rattle.contents.specs.Image.{of_kind, body_of, bodies, entry, contents, image_of}
use Rattle.contents.proofs.FormBounds.{field_small, most_held}
use Rattle.contents.proofs.ImageRead.{entry_length, body_of_length, image_length}
use Rattle.contents.proofs.Linking.{kinds_more, kinds_all, kinds_done}
use Rattle.writing.specs.KindEnds.{count_by, entries_by, end_by, contents_by, length_by, KindEnds, KindEndsOf}
use Rattle.writing.specs.Writing.{Writing}
use Rattle.writing.proofs.KindCount.{kind_order, kind_found, kind_few}
use Rattle.writing.proofs.Measuring.{image_most}

module _ (F : Form) (ends : List ℕ) where
  end_after : (ks : List ℕ) (start : ℕ) → start ≤ end_by F ends start ks
  end_after [] start = omega arith
  end_after (k ∷ ks) start = omega (arith, end_after ks (start + fact_size F k * count_by ends k))

  entries_length : (n j start : ℕ) → length (entries_by F ends start (kinds_after j n)) ≡ n * entry_size F
  entries_length zero j start = omega arith
  entries_length (suc n) j start =
      let next : ℕ = start + fact_size F (suc j) * count_by ends (suc j) in
      omega (
        arith,
        length-append (entry F (suc j) start (count_by ends (suc j))) (entries_by F ends next (kinds_after (suc j) n)),
        entry_length product F (suc j) start (count_by ends (suc j)),
        entries_length n (suc j) next,
      )

  pub contents_long : length (contents_by F ends) ≡ first_body F
  contents_long = omega (arith, entries_length F.entries 0 (first_body F))

  -- The bodies of the first `done` kinds end at `start`.
  pub record Measured (done start : ℕ) : Type 0 where
    pub within : done ≤ F.entries
    pub rest : end_by F ends start (kinds_after done (F.entries - done)) ≡ length_by F ends

  pub measured_start : Measured 0 (first_body F)
  measured_start = record { within = omega arith; rest = ap (end_by F ends (first_body F)) (sym (kinds_all F)) }

  module _ {done start : ℕ} (m : Measured done start) where
    pub measured_within : start ≤ length_by F ends
    measured_within = omega (arith, m.rest, end_after (kinds_after done (F.entries - done)) start)

    pub measured_more : done < F.entries → (size count : ℕ) → size ≡ fact_size F (done + 1) → count ≡ count_by ends (done + 1)
        → Measured (done + 1) (start + size * count)
    measured_more h size count e d =
        let k : ℕ = done + 1 in
        let ks : List ℕ = kinds_after k (F.entries - k) in
        let same : start + size * count ≡ start + fact_size F k * count_by ends k =
        ap (λ n. start + n * count) e ∙ ap (λ n. start + fact_size F k * n) d in
        record {
          within = omega arith;
          rest = ap (λ n. end_by F ends n ks) same
              ∙ (sym (ap (end_by F ends start) (kinds_more F.entries done h)) ∙ m.rest);
        }

    -- The sums are small.
    pub measured_fits : KindEnds F ends → done < F.entries → (size count : ℕ) → size ≡ fact_size F (done + 1)
        → count ≡ count_by ends (done + 1) → start + size * count < byte_values ^ widest
    measured_fits k h size count e d = let next = measured_more h size count e d in
        omega (
          arith,
          next.rest,
          end_after (kinds_after (done + 1) (F.entries - (done + 1))) (start + size * count),
          k.long,
          field_small k.form.legible,
        )

    pub measured_all : F.entries ≤ done → start ≡ length_by F ends
    measured_all h = sym (ap (end_by F ends start) (kinds_done F.entries done h)) ∙ m.rest

-- By the number of the table's facts.
pub ends_own : {F : Form} {t : List ℕ} {n : ℕ} {ends : List ℕ} → n ≡ length (filled t) → KindEndsOf F t n ends
    → KindEndsOf F t (length (filled t)) ends
ends_own {F} {t} {ends = ends} q e = subst (λ m. KindEndsOf F t m ends) q e

-- The ends of a table's kinds.
module _ {F : Form} {t : List ℕ} {n : ℕ} {ends : List ℕ} (w : Writing F t n) (e : KindEndsOf F t n ends) where
  abbrev l : List ℕ
  l = filled t

  abbrev image : List ℕ
  image = image_of product F l

  module _ (k : ℕ) (h : 1 ≤ k) (m : k ≤ F.entries) where
    before : get_or ends (k - 1) 0 ≡ below (take n t) (word_of k 0 0 0)
    before = let same : k - 1 + 1 ≡ k = omega arith in
        e.at (k - 1) (omega arith) ∙ ap (λ i. below (take n t) (word_of i 0 0 0)) same

    ends_order : get_or ends (k - 1) 0 ≤ get_or ends k 0
    ends_order = kind_order t n w.writable k (get_or ends (k - 1) 0) (get_or ends k 0) before (e.at k m)

    ends_count : count_by ends k ≡ length (of_kind product k l)
    ends_count = kind_found t n w.writable k (get_or ends (k - 1) 0) (get_or ends k 0) before (e.at k m)

  entries_are : (m j start : ℕ) → j + m ≤ F.entries → entries_by F ends start (kinds_after j m) ≡ contents product F l start
      (kinds_after j m)
  entries_are zero j start h = refl
  entries_are (suc m) j start h =
      let k : ℕ = suc j in
      let count : count_by ends k ≡ length (of_kind product k l) = ends_count k (omega arith) (omega arith) in
      ap (λ c. entry F k start c ++ entries_by F ends (start + fact_size F k * c) (kinds_after k m)) count
      ∙ ap (λ r. entry F k start (length (of_kind product k l)) ++ r)
      (entries_are m k (start + fact_size F k * length (of_kind product k l)) (omega arith))

  end_is : (m j start : ℕ) → j + m ≤ F.entries → end_by F ends start (kinds_after j m) ≡ start + length (bodies product F l
      (kinds_after j m))
  end_is zero j start h = omega arith
  end_is (suc m) j start h =
      let k : ℕ = suc j in
      let count : count_by ends k ≡ length (of_kind product k l) = ends_count k (omega arith) (omega arith) in
      let size : ℕ = fact_size F k * length (of_kind product k l) in
      ap (λ c. end_by F ends (start + fact_size F k * c) (kinds_after k m)) count
      ∙ omega (
        arith,
        end_is m k (start + size) (omega arith),
        length-append (body_of product F l k) (bodies product F l (kinds_after k m)),
        body_of_length product F l k,
      )

  pub ends_length : length_by F ends ≡ length image
  ends_length = end_is F.entries 0 (first_body F) (omega arith)
      ∙ sym (image_length product F w.form.legible.proper l)

  pub ends_contents : contents_by F ends ≡ take (first_body F) image
  unfolding image_of
  ends_contents =
      let head : List ℕ = F.edition ∷ F.entries ∷ contents product F l (first_body F) (kinds F) in
      let same : contents_by F ends ≡ head =
      ap (λ m. F.edition ∷ F.entries ∷ m) (entries_are F.entries 0 (first_body F) (omega arith)) in
      same ∙ sym (take_at head (bodies product F l (kinds F)) (first_body F) (ap length (sym same) ∙ contents_long F ends))

  pub ends_ready : KindEnds F ends
  ends_ready = record {
    form = w.form;
    places = e.places;
    rising = ends_order;
    few = λ k h. omega (arith, e.at k h, kind_few t n w.writable (k + 1), most_held w.form);
    long = omega (arith, ends_length, image_most w.form t n w.writable, w.form.long);
  }
