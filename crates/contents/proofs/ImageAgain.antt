-- Bytes whose contents are right are the image of the words that they give. Assumes nothing.
use Prim.Native.Nat.{ℕ, zero, suc, ◌+◌, ◌*◌, ◌-◌, ◌^◌, ◌≤◌, ◌<◌}
use mathlib.Core.Path.{◌≡◌, sym, ap, subst, ◌∙◌}
use mathlib.Core.Logic.{⊎_elim}
use mathlib.Core.List.{List, [], ◌∷◌, ◌++◌, append-nil}
use native.Mathlib.Omega.{arith}
use native.Mathlib.Decide.{dec_lt}
use lib.Dec.{eqb, eqb→eq}
use lib.ListN.{length, get_or, take, drop, take-append-drop}
use lib.Seq.{drop-cons, drop-drop, take-add, drop-length}
use Rattle.rdfs.specs.Numbers.{Numbers, kind_count}
use Rattle.rdfs.specs.Lists.{◌∈◌, concat_map}
use Rattle.rdfs.proofs.Lists.Tests.{tests_eq}
use Rattle.rdfs.proofs.Lists.ListLaws.{in_cons, none_in, in_concat_map}
use Rattle.rdfs.proofs.Lists.Filters.{filter_all, filter_none, filter_append}
use Rattle.contents.specs.ImageForm.{Form, Proper, fact_size, entry_size, entry_at, first_body, kinds_after, kinds, in_bytes}
use Rattle.contents.specs.Image.{fact_kind, of_kind, id_bytes, body_of, bodies, entry, contents, image_of}
use Rattle.contents.specs.Reading.{start_at, count_at, words_in, words_of}
use Rattle.contents.specs.Contents.{Entry, Chained, Contents}
use Rattle.contents.proofs.InBytes.{AllBytes, numbers_from, numbers_written}
use Rattle.contents.proofs.FactsRead.{IsKind, is_kind}
use Rattle.contents.proofs.WordsRead.{words_alike, words_written, words_from_length}
use Rattle.contents.proofs.Grouped.{kinds_from, kinds_has}
use Rattle.contents.proofs.ImageRead.{entry_next}

module _ (F : Form) (bytes : List ℕ) where
  pub chained_within : (n j start : ℕ) → Chained F bytes start (kinds_after j n) → start ≤ length bytes
  chained_within zero j start c = omega (arith, c)
  chained_within (suc n) j start c =
      omega (arith, chained_within n (suc j) (start + fact_size F (suc j) * count_at F bytes (suc j)) c.1)

  -- Each body lies within the bytes.
  pub chained_each : (n j start : ℕ) → Chained F bytes start (kinds_after j n) → (k : ℕ) → k ∈ kinds_after j n
      → start_at F bytes k + fact_size F k * count_at F bytes k ≤ length bytes
  chained_each zero j start c k i = absurd (none_in i)
  chained_each (suc n) j start c k i =
      let first : start_at F bytes (suc j) + fact_size F (suc j) * count_at F bytes (suc j) ≤ length bytes =
      omega (arith, c.0.start_is, chained_within n (suc j) (start + fact_size F (suc j) * count_at F bytes (suc j)) c.1) in
      ⊎_elim (λ e. subst (λ m. start_at F bytes m + fact_size F m * count_at F bytes m ≤ length bytes) (sym e) first)
      (chained_each n (suc j) (start + fact_size F (suc j) * count_at F bytes (suc j)) c.1 k) (in_cons i)

module _ (F : Form) (bytes : List ℕ) (c : Contents F bytes) where
  pub contents_within : first_body F ≤ length bytes
  contents_within = chained_within F bytes F.entries 0 (first_body F) c.linked.chain

  pub body_within : (k : ℕ) → 1 ≤ k → k ≤ F.entries → start_at F bytes k + fact_size F k * count_at F bytes k ≤ length bytes
  body_within k h l =
      chained_each F bytes F.entries 0 (first_body F) c.linked.chain k (kinds_has 0 F.entries k h (omega arith))

  pub body_placed : (k from count : ℕ) → 1 ≤ k → k ≤ F.entries → from ≡ start_at F bytes k → count ≡ count_at F bytes k
      → from + fact_size F k * count ≤ length bytes
  body_placed k from count h l e d =
      subst (λ n. n + fact_size F k * count ≤ length bytes) (sym e) (subst (λ n. start_at F bytes k + fact_size F k * n ≤ length
      bytes) (sym d) (body_within k h l))

module _ (N : Numbers) (F : Form) (proper : Proper F) (few : F.entries ≤ kind_count) (bytes : List ℕ) (b : AllBytes bytes)
    (room : 256 ^ F.id_size ≤ N.base) where
  kind_of_lem : (k : ℕ) → 1 ≤ k → k ≤ F.entries → IsKind k
  kind_of_lem k h l = is_kind k h (omega (arith, few))

  in_kind : (k w : ℕ) → 1 ≤ k → k ≤ F.entries → w ∈ words_in N F bytes k → fact_kind N w ≡ k
  in_kind k w h l i = words_alike N F proper bytes b room k (kind_of_lem k h l) (count_at F bytes k) (start_at F bytes k) w i

  abbrev later : ℕ → ℕ → List ℕ
  later j n = concat_map (words_in N F bytes) (kinds_after j n)

  later_above : (j n w : ℕ) → j + n ≤ F.entries → w ∈ later j n → j < fact_kind N w
  later_above j n w h i =
      let r = in_concat_map (words_in N F bytes) (kinds_after j n) i in
      let q = kinds_from j n r.0 r.1 in
      omega (arith, q.0, in_kind r.0 w (omega (arith, q.0)) (omega (arith, q.1, h)) r.2)

  -- Of the words, those of kind k are the ones that its entry gives.
  sifted : (k n j : ℕ) → j < k → k ≤ j + n → j + n ≤ F.entries → of_kind N k (later j n) ≡ words_in N F bytes k
  sifted k zero j h l m = absurd (omega arith)
  sifted k (suc n) j h l m = filter_append (λ w. eqb (fact_kind N w) k) (words_in N F bytes (suc j)) (later (suc j) n)
      ∙ elim (dec_lt (suc j) k) [
        | yes q ↦
            let none : of_kind N k (words_in N F bytes (suc j)) ≡ [] =
            filter_none (λ w. eqb (fact_kind N w) k) (words_in N F bytes (suc j))
            (λ w i t. omega (arith, q, in_kind (suc j) w (omega arith) (omega arith) i, eqb→eq (fact_kind N w) k t)) in
            ap (λ a. a ++ of_kind N k (later (suc j) n)) none ∙ sifted k n (suc j) q (omega arith) (omega arith)
        | no q ↦
            let same : suc j ≡ k = omega (arith, q) in
            let all : of_kind N k (words_in N F bytes k) ≡ words_in N F bytes k =
            filter_all (λ w. eqb (fact_kind N w) k) (words_in N F bytes k) (λ w i. (tests_eq (fact_kind N w) k).complete
            (in_kind k w (omega arith) (omega arith) i)) in
            let none : of_kind N k (later (suc j) n) ≡ [] =
            filter_none (λ w. eqb (fact_kind N w) k) (later (suc j) n) (λ w i t. omega (
              arith,
              same,
              later_above (suc j) n w (omega arith) i,
              eqb→eq (fact_kind N w) k t,
            )) in
            ap (λ i. of_kind N k (words_in N F bytes i) ++ of_kind N k (later (suc j) n)) same
            ∙ (ap (λ a. of_kind N k (words_in N F bytes k) ++ a) none ∙ (append-nil (of_kind N k (words_in N F bytes k)) ∙ all))
      ]

  abbrev words : List ℕ
  words = words_of N F bytes

  pub kind_words : (k : ℕ) → 1 ≤ k → k ≤ F.entries → of_kind N k words ≡ words_in N F bytes k
  unfolding words_of
  kind_words k h l = sifted k F.entries 0 h (omega arith) (omega arith)

  kind_count_lem : (k : ℕ) → 1 ≤ k → k ≤ F.entries → length (of_kind N k words) ≡ count_at F bytes k
  kind_count_lem k h l = ap length (kind_words k h l) ∙ words_from_length N F bytes k (count_at F bytes k) (start_at F bytes k)

  -- An entry that is right is the one that is written.
  entry_again : (k start : ℕ) → Entry F bytes k start → entry_at F k + entry_size F ≤ length bytes
      → entry F k start (count_at F bytes k) ≡ take (entry_size F) (drop (entry_at F k) bytes)
  entry_again k start e h =
      let s : ℕ = F.field_size in
      let at : ℕ = entry_at F k in
      let one : suc at ≡ at + 1 = omega arith in
      let two : suc (at + 1) ≡ at + 2 = omega arith in
      let head : drop at bytes ≡ k ∷ fact_size F k ∷ drop (at + 2) bytes =
      drop-cons bytes at 0 (omega arith) ∙ (ap (λ n. get_or bytes at 0 ∷ drop n bytes) one
      ∙ (ap (λ m. get_or bytes at 0 ∷ m) (drop-cons bytes (at + 1) 0 (omega arith))
      ∙ (ap (λ n. get_or bytes at 0 ∷ get_or bytes (at + 1) 0 ∷ drop n bytes) two
      ∙ (ap (λ n. n ∷ get_or bytes (at + 1) 0 ∷ drop (at + 2) bytes) e.kind ∙ ap (λ n. k ∷ n ∷ drop (at + 2) bytes)
      e.size)))) in
      let fields : concat_map (in_bytes s) (numbers_from s bytes (at + 2) 2) ≡ take (2 * s) (drop (at + 2) bytes) =
      numbers_written s proper.field bytes b 2 (at + 2) (omega arith) in
      let size : 2 * s ≡ s + s = omega arith in
      let long : suc (suc (s + s)) ≡ entry_size F = omega arith in
      ap (λ n. k ∷ fact_size F k ∷ concat_map (in_bytes s) (n ∷ count_at F bytes k ∷ [])) (sym e.start_is)
      ∙ (ap (λ m. k ∷ fact_size F k ∷ m) (fields ∙ ap (λ n. take n (drop (at + 2) bytes)) size)
      ∙ (ap (take (suc (suc (s + s)))) (sym head) ∙ ap (λ n. take n (drop at bytes)) long))

  contents_again : (n j start : ℕ) → Chained F bytes start (kinds_after j n) → j + n ≤ F.entries
      → entry_at F (suc j) + n * entry_size F ≤ length bytes
      → contents N F words start (kinds_after j n) ≡ take (n * entry_size F) (drop (entry_at F (suc j)) bytes)
  contents_again zero j start c h m = let none : 0 ≡ 0 * entry_size F =
      omega arith in ap (λ i. take i (drop (entry_at F (suc j)) bytes)) none
  contents_again (suc n) j start c h m =
      let k : ℕ = suc j in
      let e : ℕ = entry_size F in
      let count : length (of_kind N k words) ≡ count_at F bytes k = kind_count_lem k (omega arith) (omega arith) in
      let more : suc n * e ≡ e + n * e = omega arith in
      let next : entry_at F k + e ≡ entry_at F (suc k) = entry_next F j in
      let rest : contents N F words (start + fact_size F k * count_at F bytes k) (kinds_after k n) ≡ take (n * e)
      (drop (entry_at F (suc k)) bytes) =
      contents_again n k (start + fact_size F k * count_at F bytes k) c.1 (omega arith) (omega (arith, m, more, next)) in
      ap (λ i. entry F k start i ++ contents N F words (start + fact_size F k * i) (kinds_after k n)) count
      ∙ (ap (λ a. a ++ contents N F words (start + fact_size F k * count_at F bytes k) (kinds_after k n)) (entry_again k start c.0
      (omega (arith, m, more)))
      ∙ (ap (λ a. take e (drop (entry_at F k) bytes) ++ a) (rest ∙ (ap (λ i. take (n * e) (drop i bytes)) (sym next)
      ∙ ap (take (n * e)) (sym (drop-drop e (entry_at F k) bytes))))
      ∙ (sym (take-add e (n * e) (drop (entry_at F k) bytes)) ∙ ap (λ i. take i (drop (entry_at F k) bytes)) (sym more))))

  bodies_again : (n j start : ℕ) → Chained F bytes start (kinds_after j n) → j + n ≤ F.entries → bodies N F words (kinds_after j n)
      ≡ drop start bytes
  bodies_again zero j start c h = sym (ap (λ i. drop i bytes) (sym c) ∙ drop-length bytes)
  bodies_again (suc n) j start c h =
      let k : ℕ = suc j in
      let size : ℕ = fact_size F k * count_at F bytes k in
      let within : start + size ≤ length bytes = chained_within F bytes n k (start + size) c.1 in
      let first : body_of N F words k ≡ take size (drop start bytes) =
      ap (concat_map (id_bytes N F)) (kind_words k (omega arith) (omega arith))
      ∙ (words_written N F proper bytes b room k (kind_of_lem k (omega arith) (omega arith)) (count_at F bytes k) (start_at F bytes k)
      (omega (arith, c.0.start_is, within)) ∙ ap (λ i. take size (drop i bytes)) c.0.start_is) in
      ap (λ a. a ++ bodies N F words (kinds_after k n)) first
      ∙ (ap (λ a. take size (drop start bytes) ++ a) (bodies_again n k (start + size) c.1 (omega arith)
      ∙ sym (drop-drop size start bytes)) ∙ take-append-drop size (drop start bytes))

  pub image_again : Contents F bytes → bytes ≡ image_of N F words
  unfolding image_of
  image_again c =
      let e : ℕ = F.entries * entry_size F in
      let within : first_body F ≤ length bytes = contents_within F bytes c in
      let first : entry_at F 1 ≡ 2 = let none : (1 - 1) * entry_size F ≡ 0 = omega arith in omega (arith, none) in
      let head : bytes ≡ F.edition ∷ F.entries ∷ drop 2 bytes =
      drop-cons bytes 0 0 (omega (arith, within)) ∙ (ap (λ m. get_or bytes 0 0 ∷ m) (drop-cons bytes 1 0 (omega (arith, within)))
      ∙ (ap (λ n. n ∷ get_or bytes 1 0 ∷ drop 2 bytes) c.edition ∙ ap (λ n. F.edition ∷ n ∷ drop 2 bytes) c.entries)) in
      let middle : contents N F words (first_body F) (kinds F) ≡ take e (drop 2 bytes) =
      contents_again F.entries 0 (first_body F) c.linked.chain (omega arith) (omega (arith, within, first))
      ∙ ap (λ i. take e (drop i bytes)) first in
      let last : bodies N F words (kinds F) ≡ drop e (drop 2 bytes) =
      bodies_again F.entries 0 (first_body F) c.linked.chain (omega arith) ∙ sym (drop-drop e 2 bytes) in
      head ∙ ap (λ m. F.edition ∷ F.entries ∷ m) (sym (ap (λ a. a ++ bodies N F words (kinds F)) middle
      ∙ (ap (λ a. take e (drop 2 bytes) ++ a) last ∙ take-append-drop e (drop 2 bytes))))
