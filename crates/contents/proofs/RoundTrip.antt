-- An image that was written is read as its words, and bytes that are read are the image of what they give. Assumes nothing.
use Prim.Native.Nat.{ℕ, zero, suc, ◌+◌, ◌*◌, ◌^◌, ◌≤◌, ◌<◌}
use mathlib.Core.Path.{◌≡◌, refl, sym, ap, subst, ◌∙◌}
use mathlib.Core.Bool.{false, not, ◌&&◌, ◌||◌, cond}
use mathlib.Core.Logic.{⊎_elim}
use mathlib.Core.List.{List, [], ◌∷◌, ◌++◌, append-nil}
use native.Mathlib.Omega.{arith}
use lib.Dec.{T, eqb, eqb→eq, T_not}
use lib.ListN.{length, take, drop}
use lib.Seq.{take_at}
use borrow.Author.Tests.{not-false}
use Rattle.rdfs.specs.Numbers.{Numbers, Sound, kind_count}
use Rattle.rdfs.specs.Lists.{◌∈◌, here, there, Ascending, concat_map, member, same_list}
use Rattle.rdfs.specs.Facts.{Fact, made}
use Rattle.rdfs.specs.Words.{is_fact, laid_out, filled, fact}
use Rattle.rdfs.proofs.Lists.Tests.{Tests, and_both, both_and, differs}
use Rattle.rdfs.proofs.Lists.ListLaws.{in_cons, none_in, in_filter, in_concat_map}
use Rattle.rdfs.proofs.Words.FactLaws.{in_member}
use Rattle.rdfs.proofs.Lists.Filters.{filter_all}
use Rattle.rdfs.proofs.Words.Digits.{word_some}
use Rattle.rdfs.proofs.Lists.SameList.{same_list_eq, same_list_refl}
use Rattle.rdfs.proofs.Words.LaidOut.{laid_is_fact, laid_ascending, shape_laid}
use Rattle.table.proofs.TestAnswers.{is_true, is_false}
use Rattle.contents.specs.ImageForm.{Form, Proper, fact_size, kinds}
use Rattle.contents.specs.Image.{fact_kind, of_kind, body_of, image_of}
use Rattle.contents.specs.Reading.{Facts, HasEntries, start_at, count_at, id_at, words_from, words_in, words_of}
use Rattle.contents.specs.Reading.{malformed, bodiless, body_start, body_size}
use Rattle.contents.specs.Contents.{Contents}
use Rattle.contents.proofs.InBytes.{AllBytes}
use Rattle.contents.proofs.FactsRead.{fact_kind_lem}
use Rattle.contents.proofs.WordsRead.{Alike, words_read_lem}
use Rattle.contents.proofs.Grouped.{kinds_from, grouped}
use Rattle.contents.proofs.ImageRead.{Given, body_of_length, image_contents, image_given}
use Rattle.contents.proofs.ImageAgain.{image_again}

module _ (N : Numbers) (F : Form) (s : Sound N) (proper : Proper F) (l : List ℕ) (h : Facts N l) where
  facts_in : (w : ℕ) → w ∈ l → T (is_fact N w)
  facts_in w i = laid_is_fact N l h.laid w (subst (λ m. w ∈ m) (sym h.full) i)

  rising : Ascending l
  rising = subst Ascending h.full (laid_ascending N l h.laid)

  alike : (k : ℕ) → Alike N k (of_kind N k l)
  alike k w i = let r = in_filter (λ x. eqb (fact_kind N x) k) l i in (facts_in w r.0, eqb→eq (fact_kind N w) k r.1)

  abbrev image : List ℕ
  image = image_of N F l

  -- The entry of a kind gives the words of that kind.
  kind_again : (k : ℕ) → k ∈ kinds F → words_in N F image k ≡ of_kind N k l
  kind_again k i =
      let g : Given N F image l k = image_given N F proper l k i in
      ap (λ n. words_from N F image k n (start_at F image k)) g.count ∙ words_read_lem N F proper image k (of_kind N k l) g.rest
      (start_at F image k) (alike k) g.body

  kinds_again : words_of N F image ≡ concat_map (λ k. of_kind N k l) (kinds F)
  unfolding words_of
  kinds_again = each (kinds F) kind_again
    where
      each : (ks : List ℕ) → ((k : ℕ) → k ∈ ks → words_in N F image k ≡ of_kind N k l) → concat_map (words_in N F image) ks
          ≡ concat_map (λ k. of_kind N k l) ks
      each [] f = refl
      each (k ∷ ks) f = ap (λ a. a ++ concat_map (words_in N F image) ks) (f k (here refl))
          ∙ ap (λ a. of_kind N k l ++ a) (each ks (λ x i. f x (there i)))

  -- Words that their image gives again have an entry each.
  pub again_entries : words_of N F image ≡ l → HasEntries N F l
  again_entries e w i =
      let g = in_concat_map (λ k. of_kind N k l) (kinds F) (subst (λ m. w ∈ m) (sym e ∙ kinds_again) i) in
      let k : ℕ = g.0 in
      let same : fact_kind N w ≡ k = (alike k w g.2).1 in
      omega (arith, same, (kinds_from 0 F.entries k g.1).1)

  module _ (entered : HasEntries N F l) where
    pub kinds_all : concat_map (λ k. of_kind N k l) (kinds F) ≡ l
    kinds_all =
        grouped N s F.entries l rising (λ w i. (facts_in w i, entered w i, (fact_kind_lem (fact N.base w)).0))

    pub words_again : words_of N F image ≡ l
    words_again = kinds_again ∙ kinds_all

    pub written_well : malformed N F image ≡ false
    unfolding malformed
    written_well =
        ap (λ m. not (same_list image (image_of N F m) && laid_out N 1 m)) words_again
        ∙ ap not (is_true {b = same_list image image && laid_out N 1 l} (both_and (same_list image image) (laid_out N 1 l)
        (same_list_refl image) h.laid))

    -- The body of a kind in the image is the ids of that kind's facts, in order.
    pub body_ids : (k : ℕ) → k ∈ kinds F → take (body_size N F image k) (drop (body_start N F image k) image) ≡ body_of N F l k
    body_ids k i =
        let g : Given N F image l k = image_given N F proper l k i in
        let here : bodiless N F image k ≡ false = ap (λ m. m || not (member (kinds F) k)) written_well
        ∙ ap not (is_true {b = member (kinds F) k} (in_member (kinds F) k i)) in
        let size : fact_size F k * count_at F image k ≡ fact_size F k * length (of_kind N k l) =
        ap (λ n. fact_size F k * n) g.count in
        ap (λ m. take (cond m 0 (fact_size F k * count_at F image k)) (drop (cond m (length image) (start_at F image k)) image)) here
        ∙ (ap (λ n. take n (drop (start_at F image k) image)) size ∙ (ap (take (fact_size F k * length (of_kind N k l))) g.body
        ∙ take_at (body_of N F l k) g.rest (fact_size F k * length (of_kind N k l)) (body_of_length N F l k)))

-- A form with an entry for each kind has entries for all words.
pub all_entries : (N : Numbers) (F : Form) → kind_count ≤ F.entries → (l : List ℕ) → HasEntries N F l
all_entries N F many l w i = omega (arith, many, (fact_kind_lem (fact N.base w)).1)

-- Bytes that are well formed are the image of the words that they give, which are laid out.
pub read_well : (N : Numbers) (F : Form) (bytes : List ℕ) → malformed N F bytes ≡ false
    → (bytes ≡ image_of N F (words_of N F bytes)) × T (laid_out N 1 (words_of N F bytes))
unfolding malformed
read_well N F bytes e =
    let l : List ℕ = words_of N F bytes in
    let r = and_both (same_list bytes (image_of N F l)) (laid_out N 1 l)
    (subst T (sym (not-false (same_list bytes (image_of N F l) && laid_out N 1 l) e)) tt) in
    (same_list_eq bytes (image_of N F l) r.0, r.1)

pub well_read : (N : Numbers) (F : Form) (bytes : List ℕ) → bytes ≡ image_of N F (words_of N F bytes)
    → T (laid_out N 1 (words_of N F bytes)) → malformed N F bytes ≡ false
unfolding malformed
well_read N F bytes e t =
    let l : List ℕ = words_of N F bytes in
    let same : T (same_list bytes (image_of N F l)) = subst (λ m. T (same_list bytes m)) e (same_list_refl bytes) in
    ap not (is_true {b = same_list bytes (image_of N F l) && laid_out N 1 l} (both_and (same_list bytes (image_of N F l))
    (laid_out N 1 l) same t))

-- So they are well formed exactly if the contents are right and the words laid out.
module _ (N : Numbers) (F : Form) (proper : Proper F) (few : F.entries ≤ kind_count) (bytes : List ℕ) (b : AllBytes bytes)
    (room : 256 ^ F.id_size ≤ N.base) where
  pub tests_well : Tests (not (malformed N F bytes)) (Contents F bytes × T (laid_out N 1 (words_of N F bytes)))
  tests_well = record {
    sound = λ t. let r = read_well N F bytes (is_false (T_not (malformed N F bytes) t)) in
        (subst (Contents F) (sym r.0) (image_contents N F proper (words_of N F bytes)), r.1);
    complete = λ h. subst (λ m. T (not m)) (sym (well_read N F bytes (image_again N F proper few bytes b room h.0) h.1)) tt;
  }

-- The words that bytes give are no zeros.
module _ (N : Numbers) (F : Form) (s : Sound N) (bytes : List ℕ) where
  pub words_some : (w : ℕ) → w ∈ words_of N F bytes → 0 < w
  unfolding words_of
  words_some w i = let r = in_concat_map (words_in N F bytes) (kinds F) i in
      from_some r.0 (count_at F bytes r.0) (start_at F bytes r.0) r.2
    where
      from_some : (k n p : ℕ) → w ∈ words_from N F bytes k n p → 0 < w
      from_some k zero p i = absurd (none_in i)
      from_some k (suc n) p i =
          let f : Fact = made k (id_at F bytes p 0) (id_at F bytes p 1) (id_at F bytes p 2) in
          ⊎_elim (λ e. omega (arith, e, word_some N.base f (omega (arith, s.mark, s.digit))))
          (from_some k n (p + fact_size F k)) (in_cons i)

  pub words_full : filled (words_of N F bytes) ≡ words_of N F bytes
  words_full = filter_all (λ x. not (eqb x 0)) (words_of N F bytes) (λ w i. differs w 0 (λ e. omega (arith, e, words_some w i)))

  -- The words of bytes that are well formed are facts, and each has an entry.
  module _ (well : malformed N F bytes ≡ false) where
    pub read_facts : Facts N (words_of N F bytes)
    read_facts = record { laid = (read_well N F bytes well).1; full = words_full }

    pub read_entries : Proper F → HasEntries N F (words_of N F bytes)
    read_entries proper = again_entries N F s proper (words_of N F bytes) read_facts
        (ap (words_of N F) (sym (read_well N F bytes well).0))

-- The words of a table before its zeros.
pub filled_facts : (N : Numbers) → Sound N → (t : List ℕ) → T (laid_out N 1 t) → Facts N (filled t)
filled_facts N s t h =
    let l : List ℕ = filled t in
    record {
      laid = subst (λ m. T (laid_out N 1 m)) (append-nil l) (shape_laid N s l 0 (laid_ascending N t h) (laid_is_fact N t h));
      full = filter_all (λ x. not (eqb x 0)) l (λ w i. (in_filter (λ x. not (eqb x 0)) t i).1);
    }
