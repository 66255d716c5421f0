-- The words of one kind in a body, both ways. Assumes nothing.
use Prim.Native.Nat.{ℕ, zero, suc, ◌+◌, ◌*◌, ◌^◌, ◌≤◌}
use mathlib.Core.Path.{◌≡◌, refl, sym, ap, ◌∙◌}
use mathlib.Core.Logic.{⊎_elim}
use mathlib.Core.List.{List, [], ◌∷◌, ◌++◌, append_assoc}
use native.Mathlib.Omega.{arith}
use lib.Dec.{T}
use lib.ListN.{length, take, drop, length-append}
use lib.Seq.{drop_at, drop-drop, take-add}
use Rattle.rdfs.specs.Numbers.{Numbers}
use Rattle.rdfs.specs.Lists.{◌∈◌, here, there, concat_map}
use Rattle.rdfs.specs.Facts.{Fact, kind, ids, made}
use Rattle.rdfs.specs.Words.{word, fact, is_fact}
use Rattle.rdfs.proofs.Lists.ListLaws.{in_cons, none_in}
use Rattle.rdfs.proofs.Words.Digits.{fact_word}
use Rattle.rdfs.proofs.Words.LaidOut.{fact_says}
use Rattle.contents.specs.ImageForm.{Form, Proper, fact_size, in_bytes}
use Rattle.contents.specs.Image.{fact_kind, id_bytes}
use Rattle.contents.specs.Reading.{id_at, word_at, words_from}
use Rattle.contents.proofs.InBytes.{AllBytes, in_bytes_length}
use Rattle.contents.proofs.FactsRead.{IsKind, ids_count, fact_read, fact_written, fact_below}

pub concat_length : (f : ℕ → List ℕ) (n : ℕ) (l : List ℕ) → ((x : ℕ) → length (f x) ≡ n) → length (concat_map f l) ≡ length l * n
concat_length f n [] h = omega arith
concat_length f n (x ∷ l) h = omega (arith, length-append (f x) (concat_map f l), h x, concat_length f n l h)

-- Words of facts of kind k.
abbrev pub Alike : Numbers → ℕ → List ℕ → Type 0
Alike N k m = (w : ℕ) → w ∈ m → T (is_fact N w) × (fact_kind N w ≡ k)

module _ (N : Numbers) (F : Form) where
  pub id_bytes_length : (w : ℕ) → length (id_bytes N F w) ≡ fact_size F (fact_kind N w)
  id_bytes_length w =
      concat_length (in_bytes F.id_size) F.id_size (ids (fact N.base w)) (in_bytes_length F.id_size)
      ∙ ap (λ n. n * F.id_size) (ids_count (fact N.base w))

  pub body_length : (k : ℕ) (m : List ℕ) → ((w : ℕ) → w ∈ m → fact_kind N w ≡ k) → length (concat_map (id_bytes N F) m) ≡ fact_size F
      k * length m
  body_length k [] h = omega arith
  body_length k (w ∷ m) h =
      let size : ℕ = fact_size F k in
      let one : length (id_bytes N F w) ≡ size = id_bytes_length w ∙ ap (fact_size F) (h w (here refl)) in
      let rest : length (concat_map (id_bytes N F) m) ≡ size * length m = body_length k m (λ x i. h x (there i)) in
      length-append (id_bytes N F w) (concat_map (id_bytes N F) m) ∙ omega (arith, one, rest)

  pub words_from_length : (bytes : List ℕ) (k n p : ℕ) → length (words_from N F bytes k n p) ≡ n
  words_from_length bytes k zero p = refl
  words_from_length bytes k (suc n) p = ap suc (words_from_length bytes k n (p + fact_size F k))

  module _ (proper : Proper F) (bytes : List ℕ) where
    pub words_read_lem : (k : ℕ) (m rest : List ℕ) (p : ℕ) → Alike N k m → drop p bytes ≡ concat_map (id_bytes N F) m ++ rest
        → words_from N F bytes k (length m) p ≡ m
    words_read_lem k [] rest p a e = refl
    words_read_lem k (w ∷ m) rest p a e =
        let f : Fact = fact N.base w in
        let h = a w (here refl) in
        let tail : List ℕ = concat_map (id_bytes N F) m ++ rest in
        let split : drop p bytes ≡ id_bytes N F w ++ tail = e ∙ append_assoc (id_bytes N F w) (concat_map (id_bytes N F) m) rest in
        let first : word_at N F bytes k p ≡ w =
        ap (λ n. word N.base (made n (id_at F bytes p 0) (id_at F bytes p 1) (id_at F bytes p 2))) (sym h.1)
        ∙ (ap (word N.base) (fact_read F proper bytes f tail p split) ∙ fact_says N w h.0) in
        let long : length (id_bytes N F w) ≡ fact_size F k = id_bytes_length w ∙ ap (fact_size F) h.1 in
        let later : drop (p + fact_size F k) bytes ≡ tail = sym (drop-drop (fact_size F k) p bytes)
        ∙ (ap (drop (fact_size F k)) split ∙ drop_at (id_bytes N F w) tail (fact_size F k) long) in
        ap (λ x. x ∷ words_from N F bytes k (length m) (p + fact_size F k)) first
        ∙ ap (λ l. w ∷ l) (words_read_lem k m rest (p + fact_size F k) (λ x i. a x (there i)) later)

    module _ (b : AllBytes bytes) (room : 256 ^ F.id_size ≤ N.base) (k : ℕ) (i : IsKind k) where
      -- The fact at a place is the one that its word stands for.
      pub fact_at : (p : ℕ) → fact N.base (word_at N F bytes k p) ≡ made k (id_at F bytes p 0) (id_at F bytes p 1)
          (id_at F bytes p 2)
      fact_at p = fact_word N.base (made k (id_at F bytes p 0) (id_at F bytes p 1) (id_at F bytes p 2))
          (fact_below F proper bytes b N.base k p room i)

      pub kind_at : (p : ℕ) → fact_kind N (word_at N F bytes k p) ≡ k
      kind_at p = ap kind (fact_at p) ∙ i.of_kind_lem (id_at F bytes p 0) (id_at F bytes p 1) (id_at F bytes p 2)

      pub words_written : (n p : ℕ) → p + fact_size F k * n ≤ length bytes → concat_map (id_bytes N F) (words_from N F bytes k n p)
          ≡ take (fact_size F k * n) (drop p bytes)
      words_written zero p h = let none : 0 ≡ fact_size F k * 0 = omega arith in ap (λ j. take j (drop p bytes)) none
      words_written (suc n) p h =
          let s : ℕ = fact_size F k in
          let more : s * suc n ≡ s + s * n = omega arith in
          let first : id_bytes N F (word_at N F bytes k p) ≡ take s (drop p bytes) =
          ap (λ f. concat_map (in_bytes F.id_size) (ids f)) (fact_at p) ∙ fact_written F proper bytes b k p i
          (omega (arith, more)) in
          ap (λ a. a ++ concat_map (id_bytes N F) (words_from N F bytes k n (p + s))) first
          ∙ (ap (λ a. take s (drop p bytes) ++ a) (words_written n (p + s) (omega (arith, more))
          ∙ ap (take (s * n)) (sym (drop-drop s p bytes)))
          ∙ (sym (take-add s (s * n) (drop p bytes)) ∙ ap (λ j. take j (drop p bytes)) (sym more)))

      pub words_alike : (n p w : ℕ) → w ∈ words_from N F bytes k n p → fact_kind N w ≡ k
      words_alike zero p w h = absurd (none_in h)
      words_alike (suc n) p w h = ⊎_elim (λ e. ap (fact_kind N) e ∙ kind_at p) (words_alike n (p + fact_size F k) w) (in_cons h)
