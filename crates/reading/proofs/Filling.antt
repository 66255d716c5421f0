-- The words of an image counted, and stored into a table: kind by kind, and one kind's fact by fact. Assumes nothing.
use Prim.Native.Nat.{ℕ, zero, suc, ◌+◌, ◌*◌, ◌-◌, ◌^◌, ◌≤◌, ◌<◌}
use mathlib.Core.Path.{◌≡◌, sym, ap, ◌∙◌}
use mathlib.Core.List.{List, [], ◌++◌, append-nil}
use native.Mathlib.Omega.{arith}
use native.Mathlib.Numerals.{add-one}
use lib.ListN.{length, get_or, set, drop, length-append, length-drop, drop_of_length-le}
use lib.Seq.{drop_at, drop-drop, paste, paste-zero, paste-suc}
use Rattle.std.proofs.lemmas.List.Edits.{paste_all}
use Rattle.rdfs.specs.Numbers.{product}
use Rattle.rdfs.specs.Lists.{concat_map}
use Rattle.contents.specs.ImageForm.{Form, byte_values, field_values, fact_size, kinds_after}
use Rattle.contents.specs.Legible.{widest, Legible}
use Rattle.contents.specs.Reading.{start_at, count_at, word_at, words_from, words_in, words_of}
use Rattle.contents.proofs.WordsRead.{words_from_length}
use Rattle.contents.proofs.Linking.{kinds_more, kinds_all, kinds_done}
use Rattle.contents.proofs.FormBounds.{field_small}

-- The words of the kinds after the first `done`.
abbrev pub later : Form → List ℕ → ℕ → List ℕ
later F bytes done = concat_map (words_in product F bytes) (kinds_after done (F.entries - done))

abbrev words : Form → List ℕ → List ℕ
words F bytes = words_of product F bytes

later_all : (F : Form) (bytes : List ℕ) → words F bytes ≡ later F bytes 0
unfolding words_of
later_all F bytes = ap (concat_map (words_in product F bytes)) (kinds_all F)

later_more : (F : Form) (bytes : List ℕ) (done : ℕ) → done < F.entries → later F bytes done ≡ words_in product F bytes (done + 1)
    ++ later F bytes (done + 1)
later_more F bytes done h = ap (concat_map (words_in product F bytes)) (kinds_more F.entries done h)

later_none : (F : Form) (bytes : List ℕ) (done : ℕ) → F.entries ≤ done → later F bytes done ≡ []
later_none F bytes done h = ap (concat_map (words_in product F bytes)) (kinds_done F.entries done h)

kind_length : (F : Form) (bytes : List ℕ) (k : ℕ) → length (words_in product F bytes k) ≡ count_at F bytes k
kind_length F bytes k = words_from_length product F bytes k (count_at F bytes k) (start_at F bytes k)

-- The first `place` words are those of the first `done` kinds.
pub record Passed (F : Form) (bytes : List ℕ) (done place : ℕ) : Type 0 where
  pub within : done ≤ F.entries
  pub small : place ≤ done * byte_values ^ widest
  pub fits : place ≤ length (words F bytes)
  pub rest : drop place (words F bytes) ≡ later F bytes done

pub passed_start : (F : Form) (bytes : List ℕ) → Passed F bytes 0 0
passed_start F bytes = record { within = omega arith; small = omega arith; fits = omega arith; rest = later_all F bytes }

module _ {F : Form} {bytes : List ℕ} {done place : ℕ} (p : Passed F bytes done place) where
  pub passed_next : done < F.entries → (count : ℕ) → count ≡ count_at F bytes (done + 1)
      → (drop place (words F bytes) ≡ words_in product F bytes (done + 1) ++ later F bytes (done + 1))
      × (place + count ≤ length (words F bytes))
  passed_next h count e =
      let split = p.rest ∙ later_more F bytes done h in (
        split,
        omega (
          arith,
          p.fits,
          e,
          length-drop place (words F bytes),
          ap length split,
          length-append (words_in product F bytes (done + 1)) (later F bytes (done + 1)),
          kind_length F bytes (done + 1),
        ),
      )

  pub passed_more : Legible F → done < F.entries → (count : ℕ) → count ≡ count_at F bytes (done + 1) → count < field_values F
      → Passed F bytes (done + 1) (place + count)
  passed_more legible h count e l =
      let n = passed_next h count e in
      record {
        within = omega arith;
        small = omega (arith, p.small, field_small legible);
        fits = n.1;
        rest = sym (drop-drop count place (words F bytes))
            ∙ (ap (drop count) n.0 ∙ drop_at (words_in product F bytes (done + 1)) (later F bytes (done + 1)) count
            (kind_length F bytes (done + 1) ∙ sym e));
      }

  pub passed_all : F.entries ≤ done → place ≡ length (words F bytes)
  passed_all h = omega (arith, p.fits, length-drop place (words F bytes), ap length (p.rest ∙ later_none F bytes done h))

-- The first i facts of a body are stored, over as many words as there are facts; the next stands at p.
module _ (F : Form) (bytes : List ℕ) (k from : ℕ) where
  word_there : (n i : ℕ) → i < n → get_or (words_from product F bytes k n from) i 0 ≡ word_at product F bytes k
      (from + fact_size F k * i)
  word_there n i h = go n i from h
    where
      go : (n i from : ℕ) → i < n → get_or (words_from product F bytes k n from) i 0 ≡ word_at product F bytes k
          (from + fact_size F k * i)
      go zero i from h = absurd (omega arith)
      go (suc n) zero from h = let same : from ≡ from + fact_size F k * 0 = omega arith in ap (word_at product F bytes k) same
      go (suc n) (suc i) from h =
          let same : from + fact_size F k + fact_size F k * i ≡ from + fact_size F k * suc i = omega arith in
          go n i (from + fact_size F k) (omega arith) ∙ ap (word_at product F bytes k) same

  abbrev all : List ℕ → List ℕ
  all l₀ = words_from product F bytes k (length l₀) from

  pub record Stored (l₀ l : List ℕ) (i p : ℕ) : Type 0 where
    pub within : i ≤ length l₀
    pub at : p ≡ from + fact_size F k * i
    pub so_far : l ≡ paste l₀ 0 (all l₀) i

  pub stored_start : (l₀ : List ℕ) → Stored l₀ l₀ 0 from
  stored_start l₀ = record { within = omega arith; at = omega arith; so_far = paste-zero l₀ 0 (all l₀) }

  module _ {l₀ l : List ℕ} {i p : ℕ} (s : Stored l₀ l i p) where
    long : length (all l₀) ≡ length l₀
    long = words_from_length product F bytes k (length l₀) from

    pub stored_more : i < length l₀ → (w : ℕ) → w ≡ word_at product F bytes k p → (size : ℕ) → size ≡ fact_size F k
        → Stored l₀ (set l i w) (i + 1) (p + size)
    stored_more h w e size z =
        let same : w ≡ get_or (all l₀) i 0 = e ∙ (ap (word_at product F bytes k) s.at
        ∙ sym (word_there (length l₀) i (omega (arith, h)))) in
        let place : i ≡ 0 + i = omega arith in
        record {
          within = omega (arith, h);
          at = omega (arith, s.at, z);
          so_far =
              ap (λ m. set m i w) s.so_far ∙ (ap (set (paste l₀ 0 (all l₀) i) i) same
              ∙ (ap (λ n. set (paste l₀ 0 (all l₀) i) n (get_or (all l₀) i 0)) place
              ∙ (paste-suc l₀ 0 (all l₀) i 0 (omega (arith, h)) (omega (arith, h, long))
              ∙ ap (paste l₀ 0 (all l₀)) (sym (add-one i)))));
        }

    pub stored_end : length l₀ ≤ i → l ≡ all l₀
    stored_end h =
        let done : i ≡ length l₀ = omega (arith, s.within) in
        s.so_far ∙ (ap (paste l₀ 0 (all l₀)) done ∙ (paste_all l₀ 0 (all l₀) (length l₀) (sym long)
        ∙ (ap (λ m. all l₀ ++ m) (drop_of_length-le l₀ {i = 0 + length l₀} (omega arith)) ∙ append-nil (all l₀))))
