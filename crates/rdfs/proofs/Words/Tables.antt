-- The words of facts and the facts of words: a list of allowed facts, laid out as a table, is the same facts. Assumes nothing.
use Prim.Native.Nat.{ℕ, ◌-◌, ◌≤◌}
use mathlib.Core.Path.{◌≡◌, sym, ap, subst, ◌∙◌}
use mathlib.Core.Bool.{◌&&◌}
use mathlib.Core.List.{List, map}
use native.Mathlib.Omega.{arith}
use lib.Dec.{T, eqb, eqb_refl}
use lib.ListN.{length, replicate, length-append, length-replicate}
use Rattle.rdfs.specs.Numbers.{Numbers, Sound}
use Rattle.rdfs.specs.Lists.{◌∈◌, ◌⊆◌}
use Rattle.rdfs.specs.Facts.{Fact}
use Rattle.rdfs.specs.Words.{word, fact, allowed, is_fact, laid_out, filled, facts, words, padded}
use Rattle.rdfs.proofs.Lists.Tests.{both_and}
use Rattle.rdfs.proofs.Lists.ListLaws.{in_map, map_in}
use Rattle.rdfs.proofs.Lists.Sorted.{ascending_equal, in_sort, sort_has, sort_ascending}
use Rattle.rdfs.proofs.Words.Digits.{fact_word}
use Rattle.rdfs.proofs.Words.Allowed.{allowed_below}
use Rattle.rdfs.proofs.Words.LaidOut.{fact_some, filled_before, shape_laid}

module _ (N : Numbers) where
  pub in_words : (K : List Fact) (x : ℕ) → x ∈ words N K → (f : Fact) × (f ∈ K) × (x ≡ word N.base f)
  in_words K x h = in_map (word N.base) K (in_sort (map (word N.base) K) x h)

  pub words_in_lem : (K : List Fact) (f : Fact) → f ∈ K → word N.base f ∈ words N K
  words_in_lem K f h = sort_has (map (word N.base) K) (word N.base f) (map_in (word N.base) h)

  pub words_sub : (K L : List Fact) → K ⊆ L → words N K ⊆ words N L
  words_sub K L s x h =
      let r = in_words K x h in
      subst (λ y. y ∈ words N L) (sym r.2) (words_in_lem L r.0 (s r.0 r.1))

  pub words_same : (K L : List Fact) → K ⊆ L → L ⊆ K → words N K ≡ words N L
  words_same K L to from = ascending_equal (words N K) (words N L) (sort_ascending (map (word N.base) K))
      (sort_ascending (map (word N.base) L)) (words_sub K L to) (words_sub L K from)

pub padded_length : (n : ℕ) (l : List ℕ) → length l ≤ n → length (padded n l) ≡ n
padded_length n l h = omega (arith, length-append l (replicate (n - length l) 0), length-replicate {A = ℕ} (n - length l) 0)

-- Allowed facts.
module _ (N : Numbers) (s : Sound N) where
  pub fact_of_word : (f : Fact) → T (allowed N.top f) → fact N.base (word N.base f) ≡ f
  fact_of_word f a = fact_word N.base f (allowed_below N s f a)

  pub word_is_fact : (f : Fact) → T (allowed N.top f) → T (is_fact N (word N.base f))
  word_is_fact f a =
      let w : ℕ = word N.base f in
      subst (λ g. T (eqb (word N.base g) w && allowed N.top g)) (sym (fact_of_word f a))
      (both_and (eqb w w) (allowed N.top f) (eqb_refl w) a)

  module _ (n : ℕ) (K : List Fact) (a : (f : Fact) → f ∈ K → T (allowed N.top f)) where
    words_facts : (x : ℕ) → x ∈ words N K → T (is_fact N x)
    words_facts x h = let r = in_words N K x h in subst (λ y. T (is_fact N y)) (sym r.2) (word_is_fact r.0 (a r.0 r.1))

    pub filled_padded : filled (padded n (words N K)) ≡ words N K
    filled_padded = filled_before (words N K) (n - length (words N K)) (λ x h. fact_some N s x (words_facts x h))

    pub facts_padded : (facts N (padded n (words N K)) ⊆ K) × (K ⊆ facts N (padded n (words N K)))
    facts_padded = subst (λ l. (map (fact N.base) l ⊆ K) × (K ⊆ map (fact N.base) l)) (sym filled_padded) (back, forth)
      where
        back : map (fact N.base) (words N K) ⊆ K
        back f h =
            let r = in_map (fact N.base) (words N K) h in
            let q = in_words N K r.0 r.1 in
            subst (λ g. g ∈ K) (sym (r.2 ∙ (ap (fact N.base) q.2 ∙ fact_of_word q.0 (a q.0 q.1)))) q.1

        forth : K ⊆ map (fact N.base) (words N K)
        forth f h = subst (λ g. g ∈ map (fact N.base) (words N K)) (fact_of_word f (a f h)) (map_in (fact N.base) (words_in_lem
            N K f h))

    pub laid_padded : T (laid_out N 1 (padded n (words N K)))
    laid_padded = shape_laid N s (words N K) (n - length (words N K)) (sort_ascending (map (word N.base) K)) words_facts
