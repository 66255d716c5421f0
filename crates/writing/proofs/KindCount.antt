-- How many words of a kind a table has, by the words below its first and below the next kind's. Assumes nothing.
use Prim.Native.Nat.{ℕ, ◌+◌, ◌-◌, ◌≤◌, ◌<◌}
use mathlib.Core.Path.{◌≡◌, refl, sym, ap, ◌∙◌}
use mathlib.Core.List.{List, [], ◌∷◌}
use native.Mathlib.Omega.{arith}
use native.Mathlib.Decide.{dec_lt}
use lib.Dec.{T}
use lib.ListN.{length, get_or, take}
use Rattle.rdfs.specs.Numbers.{product, kind_count}
use Rattle.rdfs.specs.Lists.{◌∈◌, here, there}
use Rattle.rdfs.specs.Words.{fact, is_fact, filled}
use Rattle.rdfs.proofs.Words.LaidOut.{laid_is_fact}
use Rattle.rdfs.proofs.Theorems.{product_sound}
use Rattle.table.specs.Found.{below}
use Rattle.table.specs.Parts.{word_of}
use Rattle.table.proofs.Below.{below_less, below_not, below_none, first_within, first_up}
use Rattle.table.proofs.Filled.{filled_within}
use Rattle.table.proofs.CountedLaws.{counted_first, counted_search, counted_fact}
use Rattle.contents.specs.Image.{fact_kind, of_kind}
use Rattle.writing.specs.Writing.{Writable}
use Rattle.contents.proofs.FactsRead.{fact_kind_lem}
use Rattle.contents.proofs.Grouped.{kind_more, kind_skip, word_within}

kind_counted : (k : ℕ) (l : List ℕ) → ((w : ℕ) → w ∈ l → T (is_fact product w)) → below l (word_of (k + 1) 0 0 0) ≡ below l
    (word_of k 0 0 0) + length (of_kind product k l)
kind_counted k [] h = refl
kind_counted k (w ∷ l) h =
    let rest = kind_counted k l (λ x i. h x (there i)) in
    let b = word_within product product_sound w (h w (here refl)) in
    elim (dec_lt (fact_kind product w) k) [
      | yes lower ↦
          let a = below_less w (word_of k 0 0 0) l (omega (arith, b.1, lower)) in
          let n = below_less w (word_of (k + 1) 0 0 0) l (omega (arith, b.1, lower)) in
          omega (arith, rest, a, n, ap length (kind_skip product k w l (λ e. omega (arith, e, lower))))
      | no upper ↦ elim (dec_lt k (fact_kind product w)) [
        | yes higher ↦
            let a = below_not w (word_of k 0 0 0) l (omega (arith, b.0, higher)) in
            let n = below_not w (word_of (k + 1) 0 0 0) l (omega (arith, b.0, higher)) in
            omega (arith, rest, a, n, ap length (kind_skip product k w l (λ e. omega (arith, e, higher))))
        | no same ↦
            let is : fact_kind product w ≡ k = omega (arith, upper, same) in
            let a = below_not w (word_of k 0 0 0) l (omega (arith, b.0, is)) in
            let n = below_less w (word_of (k + 1) 0 0 0) l (omega (arith, b.1, is)) in
            omega (arith, rest, a, n, ap length (kind_more product k w l is))
      ]
    ]

module _ (t : List ℕ) (n : ℕ) (c : Writable t n) where
  -- No word is below kind 1, and none is above the last kind.
  pub kind_first : 0 ≡ below (take n t) (word_of 1 0 0 0)
  kind_first =
      let same : take n t ≡ filled t = counted_first c.counted in
      sym (ap (λ m. below m (word_of 1 0 0 0)) same ∙ below_none (word_of 1 0 0 0) (filled t)
      (λ w i. omega (
        arith,
        (word_within product product_sound w (laid_is_fact product t c.counted.laid w i)).0,
        (fact_kind_lem (fact product.base w)).0,
      )))

  pub kind_last : (k : ℕ) → kind_count ≤ k → n ≤ below (take n t) (word_of (k + 1) 0 0 0)
  kind_last k h =
      let ready = counted_search c.counted in
      let end : ℕ = below (take n t) (word_of (k + 1) 0 0 0) in
      elim (dec_lt end n) [
        | yes q ↦
            let w : ℕ = get_or t end 0 in
            let bound = (word_within product product_sound w (counted_fact c.counted end q)).1 in
            let low : w < word_of (k + 1) 0 0 0 = omega (arith, h, bound, (fact_kind_lem (fact product.base w)).1) in
            absurd (omega (arith, first_up t n (word_of (k + 1) 0 0 0) ready.0 ready.1 end q low))
        | no q ↦ omega (arith, q)
      ]

  -- No more words than a table has.
  pub kind_few : (k : ℕ) → below (take n t) (word_of k 0 0 0) ≤ product.most
  kind_few k =
      let ready = counted_search c.counted in
      omega (
        arith,
        first_within t n (word_of k 0 0 0) ready.0 ready.1,
        c.counted.size,
        filled_within product t c.counted.laid,
        c.few,
      )

  -- Two searches, for the first word of kind k and the first of the next.
  module _ (k from to : ℕ) (f : from ≡ below (take n t) (word_of k 0 0 0)) (g : to ≡ below (take n t) (word_of (k + 1) 0 0 0)) where
    found : to ≡ from + length (of_kind product k (filled t))
    found =
        let l : List ℕ = filled t in
        let same : take n t ≡ l = counted_first c.counted in
        let low : from ≡ below l (word_of k 0 0 0) = f ∙ ap (λ m. below m (word_of k 0 0 0)) same in
        let high : to ≡ below l (word_of (k + 1) 0 0 0) = g ∙ ap (λ m. below m (word_of (k + 1) 0 0 0)) same in
        high ∙ (kind_counted k l (laid_is_fact product t c.counted.laid) ∙ ap (λ m. m + length (of_kind product k l))
        (sym low))

    pub kind_order : from ≤ to
    kind_order = omega (arith, found)

    pub kind_found : to - from ≡ length (of_kind product k (filled t))
    kind_found = omega (arith, found)
