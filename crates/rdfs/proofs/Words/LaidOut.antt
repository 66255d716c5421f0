-- The layout of a table, both ways: what the test says of the words, and which words pass it. Assumes nothing.
use Prim.Native.Nat.{ℕ, zero, suc, ◌≤◌, ◌<◌}
use mathlib.Core.Path.{◌≡◌, refl, sym, ap, subst, ◌∙◌}
use mathlib.Core.Bool.{Bool, true, false, not, ◌&&◌, cond}
use mathlib.Core.Logic.{⊎_elim}
use mathlib.Core.List.{List, [], ◌∷◌, ◌++◌, map, append-nil}
use native.Mathlib.Omega.{arith}
use native.Mathlib.Nat.{sub-zero, suc-sub-suc}
use lib.Dec.{T, eqb, leb, eqb→eq, leb→le, le→leb}
use lib.ListN.{length, replicate}
use borrow.Author.Tests.{eqb-true}
use Rattle.rdfs.specs.Numbers.{Numbers, Sound}
use Rattle.rdfs.specs.Lists.{◌∈◌, here, there, ◌⊆◌, Ascending, all}
use Rattle.rdfs.specs.Facts.{Fact}
use Rattle.rdfs.specs.Words.{word, fact, allowed, is_fact, laid_out, filled, facts, words, padded}
use Rattle.rdfs.proofs.Lists.Tests.{and_both, both_and, differ, differs, tests_eq}
use Rattle.rdfs.proofs.Lists.ListLaws.{in_cons, none_in, all_in, in_all, in_map, map_in}
use Rattle.rdfs.proofs.Lists.Filters.{cond_no, filter_all, filter_none, filter_append, filter_split}
use Rattle.rdfs.proofs.Lists.Sorted.{ascending_equal, in_sort, sort_has, sort_ascending}
use Rattle.rdfs.proofs.Words.Digits.{word_some}

-- A word that is a fact: it is its fact's word, and the fact is allowed.
module _ (N : Numbers) (x : ℕ) (t : T (is_fact N x)) where
  fact_parts : T (eqb (word N.base (fact N.base x)) x) × T (allowed N.top (fact N.base x))
  fact_parts = and_both (eqb (word N.base (fact N.base x)) x) (allowed N.top (fact N.base x)) t

  pub fact_says : word N.base (fact N.base x) ≡ x
  fact_says = eqb→eq (word N.base (fact N.base x)) x fact_parts.0

  pub fact_allowed : T (allowed N.top (fact N.base x))
  fact_allowed = fact_parts.1

pub fact_some : (N : Numbers) → Sound N → (x : ℕ) → T (is_fact N x) → 0 < x
fact_some N s x t = omega (arith, fact_says N x t, word_some N.base (fact N.base x) (omega (arith, s.mark, s.digit)))

pub in_zeros : (m x : ℕ) → x ∈ replicate m 0 → x ≡ 0
in_zeros zero x h = absurd (none_in h)
in_zeros (suc m) x h = ⊎_elim (λ e. e) (in_zeros m x) (in_cons h)

zeros_equal : (w : List ℕ) → ((x : ℕ) → x ∈ w → x ≡ 0) → w ≡ replicate (length w) 0
zeros_equal [] h = refl
zeros_equal (x ∷ w) h = rw (h x (here refl)) (ap (λ r. 0 ∷ r) (zeros_equal w (λ y k. h y (there k))))

-- What is filled of words and zeros after them.
pub filled_before : (l : List ℕ) (m : ℕ) → ((x : ℕ) → x ∈ l → 0 < x) → filled (l ++ replicate m 0) ≡ l
filled_before l m h =
    let some : ℕ → Bool = λ x. not (eqb x 0) in
    let words-stay : filled l ≡ l = filter_all some l (λ x k. differs x 0 (λ e. omega (arith, e, h x k))) in
    let zeros-go : filled (replicate m 0) ≡ [] = filter_none some (replicate m 0) (λ x k t. differ t (in_zeros m x k)) in
    filter_append some l (replicate m 0) ∙ (ap (λ r. r ++ filled (replicate m 0)) words-stay ∙ (ap (λ r. l ++ r) zeros-go
    ∙ append-nil l))

padded_none : (n : ℕ) → padded n [] ≡ replicate n 0
padded_none n = ap (λ m. replicate m 0) (sub-zero n)

padded_more : (n x : ℕ) (l : List ℕ) → padded (suc n) (x ∷ l) ≡ x ∷ padded n l
padded_more n x l = ap (λ m. x ∷ (l ++ replicate m 0)) (suc-sub-suc n (length l))

-- l are the words of the table w: from `least` on, ascending, then zeros.
pub record Laid (N : Numbers) (least : ℕ) (w l : List ℕ) : Type 0 where
  pub within : (x : ℕ) → x ∈ l → (least ≤ x) × T (is_fact N x)
  pub ascending : Ascending l
  pub shape : w ≡ padded (length w) l

pub laid_out_lem : (N : Numbers) (least : ℕ) (w : List ℕ) → T (laid_out N least w) → Laid N least w (filled w)
laid_out_lem N least [] t = record { within = λ x h. absurd (none_in h); ascending = tt; shape = refl }
laid_out_lem N least (x ∷ w) t = step (eqb x 0) refl (laid_out_lem N (suc x) w) t
  where
    step : (b : Bool) → eqb x 0 ≡ b → (T (laid_out N (suc x) w) → Laid N (suc x) w (filled w))
        → T (cond b (all (λ y. eqb y 0) w) (leb least x && (is_fact N x && laid_out N (suc x) w)))
        → Laid N least (x ∷ w) (cond (not b) (x ∷ filled w) (filled w))
    step true e r u =
        let zero_in : (y : ℕ) → y ∈ (x ∷ w) → y ≡ 0 =
        λ y h. ⊎_elim (λ q. q ∙ eqb-true x 0 e) (λ k. eqb→eq y 0 (all_in (λ z. eqb z 0) u k)) (in_cons h) in
        let none : filled w ≡ [] = filter_none (λ y. not (eqb y 0)) w (λ y h t. differ t (zero_in y (there h))) in
        subst (Laid N least (x ∷ w)) (sym none) record {
          within = λ y h. absurd (none_in h);
          ascending = tt;
          shape = zeros_equal (x ∷ w) zero_in ∙ sym (padded_none (suc (length w)));
        }
    step false e r u =
        let p = and_both (leb least x) (is_fact N x && laid_out N (suc x) w) u in
        let q = and_both (is_fact N x) (laid_out N (suc x) w) p.1 in
        let rest = r q.1 in
        let from : least ≤ x = leb→le least x p.0 in
        let later : (y : ℕ) → y ∈ filled w → (least ≤ y) × T (is_fact N y) = λ y k. let i = rest.within y k in
        (omega (arith, from, i.0), i.1) in
        record {
          within = λ y h. ⊎_elim (λ k. subst (λ z. (least ≤ z) × T (is_fact N z)) (sym k) (from, q.0)) (later y) (in_cons h);
          ascending = ((λ y h. (rest.within y h).0), rest.ascending);
          shape = ap (λ m. x ∷ m) rest.shape ∙ sym (padded_more (length w) x (filled w));
        }

-- Ascending words of facts with zeros after them are laid out.
pub laid_from : (N : Numbers) (least : ℕ) (l : List ℕ) (m : ℕ) → 0 < least → Ascending l
    → ((x : ℕ) → x ∈ l → (least ≤ x) × T (is_fact N x)) → T (laid_out N least (l ++ replicate m 0))
laid_from N least [] zero z a h = tt
laid_from N least [] (suc m) z a h = in_all (λ x. eqb x 0) (replicate m 0) (λ x k. (tests_eq x 0).complete (in_zeros m x k))
laid_from N least (x ∷ l) m z a h =
    let w : List ℕ = l ++ replicate m 0 in
    let q = h x (here refl) in
    let rest : T (laid_out N (suc x) w) = laid_from N (suc x) l m (omega arith) a.1 (λ y k. (a.0 y k, (h y (there k)).1)) in
    let tail : Bool = is_fact N x && laid_out N (suc x) w in
    let passes : T (leb least x && tail) =
    both_and (leb least x) tail (le→leb least x q.0) (both_and (is_fact N x) (laid_out N (suc x) w) q.1 rest) in
    subst T (sym (cond_no (eqb x 0) (all (λ y. eqb y 0) w) (leb least x && tail) (λ t. omega (arith, eqb→eq x 0 t, q.0)))) passes

pub shape_laid : (N : Numbers) → Sound N → (l : List ℕ) (m : ℕ) → Ascending l → ((x : ℕ) → x ∈ l → T (is_fact N x))
    → T (laid_out N 1 (l ++ replicate m 0))
shape_laid N s l m a h = laid_from N 1 l m (omega arith) a (λ x k. (fact_some N s x (h x k), h x k))

-- A table that is laid out.
module _ (N : Numbers) (w : List ℕ) (t : T (laid_out N 1 w)) where
  pub laid_is_fact : (x : ℕ) → x ∈ filled w → T (is_fact N x)
  laid_is_fact x h = ((laid_out_lem N 1 w t).within x h).1

  pub laid_allowed : (f : Fact) → f ∈ facts N w → T (allowed N.top f)
  laid_allowed f h =
      let r = in_map (fact N.base) (filled w) h in
      subst (λ g. T (allowed N.top g)) (sym r.2) (fact_allowed N r.0 (laid_is_fact r.0 r.1))

  pub laid_ascending : Ascending (filled w)
  laid_ascending = (laid_out_lem N 1 w t).ascending

  pub laid_shape : w ≡ padded (length w) (filled w)
  laid_shape = (laid_out_lem N 1 w t).shape

  pub laid_word_in : (f : Fact) → f ∈ facts N w → word N.base f ∈ filled w
  laid_word_in f h =
      let r = in_map (fact N.base) (filled w) h in
      subst (λ y. y ∈ filled w) (sym (ap (word N.base) r.2 ∙ fact_says N r.0 (laid_is_fact r.0 r.1))) r.1

  -- The words of its facts are its words.
  pub laid_words : words N (facts N w) ≡ filled w
  laid_words = ascending_equal (words N (facts N w)) (filled w) (sort_ascending (map (word N.base) (facts N w))) laid_ascending
      back forth
    where
      back : words N (facts N w) ⊆ filled w
      back x h =
          let r = in_map (word N.base) (facts N w) (in_sort (map (word N.base) (facts N w)) x h) in
          subst (λ y. y ∈ filled w) (sym r.2) (laid_word_in r.0 r.1)

      forth : filled w ⊆ words N (facts N w)
      forth x h = subst (λ y. y ∈ words N (facts N w)) (fact_says N x (laid_is_fact x h))
          (sort_has (map (word N.base) (facts N w)) _ (map_in (word N.base) (map_in (fact N.base) h)))

  -- So it is the words of its facts, then zeros.
  pub laid_again : w ≡ padded (length w) (words N (facts N w))
  laid_again = laid_shape ∙ ap (padded (length w)) (sym laid_words)

  pub laid_fits : length (words N (facts N w)) ≤ length w
  laid_fits = subst (λ l. length l ≤ length w) (sym laid_words) (omega (arith, filter_split (λ x. not (eqb x 0)) w))
