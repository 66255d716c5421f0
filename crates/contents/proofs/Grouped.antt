-- The words of an ascending list kind by kind are the list. Assumes nothing.
use Prim.Native.Nat.{ℕ, zero, suc, ◌+◌, ◌*◌, ◌≤◌, ◌<◌}
use mathlib.Core.Path.{◌≡◌, refl, sym, ap, ◌∙◌}
use mathlib.Core.Bool.{cond}
use mathlib.Core.Logic.{⊎_elim}
use mathlib.Core.List.{List, [], ◌∷◌, ◌++◌}
use native.Mathlib.Omega.{arith}
use native.Mathlib.Decide.{dec_lt}
use native.Mathlib.Nat.{mul-le-mul_right}
use lib.Dec.{T, eqb, eqb→eq}
use borrow.Author.Tests.{eq-eqb, ne_eqb}
use Rattle.rdfs.specs.Numbers.{Numbers, Sound}
use Rattle.rdfs.specs.Lists.{◌∈◌, here, there, Ascending, concat_map}
use Rattle.rdfs.specs.Facts.{Fact, kind, first, second, third}
use Rattle.rdfs.specs.Words.{word, fact, is_fact}
use Rattle.rdfs.proofs.Lists.ListLaws.{in_cons, none_in}
use Rattle.rdfs.proofs.Lists.Filters.{filter_none}
use Rattle.rdfs.proofs.Words.Digits.{Below, digit_bound}
use Rattle.rdfs.proofs.Words.Allowed.{allowed_below}
use Rattle.rdfs.proofs.Words.LaidOut.{fact_says, fact_allowed}
use Rattle.contents.specs.ImageForm.{kinds_after}
use Rattle.contents.specs.Image.{fact_kind, of_kind}

pub kinds_from : (j n k : ℕ) → k ∈ kinds_after j n → (j < k) × (k ≤ j + n)
kinds_from j zero k h = absurd (none_in h)
kinds_from j (suc n) k h = ⊎_elim (λ e. (omega arith, omega arith)) (λ i. let r = kinds_from (suc j) n k i in
    (omega (arith, r.0), omega (arith, r.1))) (in_cons h)

pub kinds_has : (j n k : ℕ) → j < k → k ≤ j + n → k ∈ kinds_after j n
kinds_has j zero k h l = absurd (omega arith)
kinds_has j (suc n) k h l = elim (dec_lt (suc j) k) [
  | yes q ↦ there (kinds_has (suc j) n k q (omega arith))
  | no q ↦ let e : k ≡ suc j = omega (arith, q) in here e
]

module _ (N : Numbers) where
  -- A word of kind k, or of another, before the words of kind k.
  pub kind_more : (k w : ℕ) (l : List ℕ) → fact_kind N w ≡ k → of_kind N k (w ∷ l) ≡ w ∷ of_kind N k l
  kind_more k w l e = ap (λ b. cond b (w ∷ of_kind N k l) (of_kind N k l)) (eq-eqb (fact_kind N w) k e)

  pub kind_skip : (k w : ℕ) (l : List ℕ) → (fact_kind N w ≡ k → ⊥) → of_kind N k (w ∷ l) ≡ of_kind N k l
  kind_skip k w l e = ap (λ b. cond b (w ∷ of_kind N k l) (of_kind N k l)) (ne_eqb (fact_kind N w) k e)

  module _ (w : ℕ) (l : List ℕ) where
    -- Kinds above the word's own do not have it.
    group_past : (j n : ℕ) → fact_kind N w ≤ j → concat_map (λ k. of_kind N k (w ∷ l)) (kinds_after j n) ≡ concat_map
        (λ k. of_kind N k l) (kinds_after j n)
    group_past j zero h = refl
    group_past j (suc n) h =
        ap (λ a. a ++ concat_map (λ k. of_kind N k (w ∷ l)) (kinds_after (suc j) n))
        (kind_skip (suc j) w l (λ e. omega (arith, e, h)))
        ∙ ap (λ a. of_kind N (suc j) l ++ a) (group_past (suc j) n (omega arith))

    group_more : (j n : ℕ) → j < fact_kind N w → fact_kind N w ≤ j + n → ((x : ℕ) → x ∈ l → fact_kind N w ≤ fact_kind N x)
        → concat_map (λ k. of_kind N k (w ∷ l)) (kinds_after j n) ≡ w ∷ concat_map (λ k. of_kind N k l) (kinds_after j n)
    group_more j zero h m up = absurd (omega arith)
    group_more j (suc n) h m up = elim (dec_lt (suc j) (fact_kind N w)) [
      | yes q ↦
          let none : of_kind N (suc j) l ≡ [] =
          filter_none (λ x. eqb (fact_kind N x) (suc j)) l (λ x i t. omega (
            arith,
            q,
            up x i,
            eqb→eq (fact_kind N x) (suc j)
                t,
          )) in
          ap (λ a. a ++ concat_map (λ k. of_kind N k (w ∷ l)) (kinds_after (suc j) n))
          (kind_skip (suc j) w l (λ e. omega (arith, e, q)) ∙ none)
          ∙ (group_more (suc j) n q (omega arith) up ∙ ap (λ a. w ∷ (a ++ concat_map (λ k. of_kind N k l) (kinds_after (suc j) n)))
          (sym none))
      | no q ↦
          ap (λ a. a ++ concat_map (λ k. of_kind N k (w ∷ l)) (kinds_after (suc j) n)) (kind_more (suc j) w l (omega (arith, q)))
          ∙ ap (λ a. w ∷ (of_kind N (suc j) l ++ a)) (group_past (suc j) n (omega (arith, q)))
    ]

  module _ (s : Sound N) where
    below_next : (B : ℕ) (f : Fact) → Below B f → word B f < suc (kind f) * B * B * B
    below_next B f b = digit_bound B _ (third f) _ (digit_bound B _ (second f) _ (digit_bound B (kind f) (first f) (suc (kind f))
        (omega arith) b.one) b.two) b.three

    pub word_within : (w : ℕ) → T (is_fact N w) → (fact_kind N w * N.base * N.base * N.base ≤ w)
        × (w < suc (fact_kind N w) * N.base * N.base * N.base)
    word_within w t =
        let f : Fact = fact N.base w in
        let b : Below N.base f = allowed_below N s f (fact_allowed N w t) in
        let says : word N.base f ≡ w = fact_says N w t in
        let B : ℕ = N.base in (
          omega (
            arith,
            says,
            mul-le-mul_right B (mul-le-mul_right B (from (kind f * B) (first f))),
            mul-le-mul_right B (from ((kind f * B + first f) * B) (second f)),
          ),
          omega (arith, says, below_next N.base f b),
        )
      where
        from : (x y : ℕ) → x ≤ x + y
        from x y = omega arith

    -- A greater word has no lower kind.
    pub kinds_up : (v w : ℕ) → T (is_fact N v) → T (is_fact N w) → v < w → fact_kind N v ≤ fact_kind N w
    kinds_up v w s t h = elim (dec_lt (fact_kind N w) (fact_kind N v)) [
      | yes q ↦
          let B : ℕ = N.base in
          let up : suc (fact_kind N w) * B * B * B ≤ fact_kind N v * B * B * B =
          mul-le-mul_right B (mul-le-mul_right B (mul-le-mul_right B q)) in
          absurd (omega (arith, up, (word_within v s).0, (word_within w t).1, h))
      | no q ↦ omega (arith, q)
    ]

    pub grouped : (n : ℕ) (l : List ℕ) → Ascending l → ((w : ℕ) → w ∈ l → T (is_fact N w) × (fact_kind N w ≤ n)
        × (0 < fact_kind N w)) → concat_map (λ k. of_kind N k l) (kinds_after 0 n) ≡ l
    grouped n [] a h = none 0 n
      where
        none : (j n : ℕ) → concat_map (λ k. of_kind N k []) (kinds_after j n) ≡ []
        none j zero = refl
        none j (suc n) = none (suc j) n
    grouped n (w ∷ l) a h =
        let f = h w (here refl) in
        group_more w l 0 n f.2 (omega (arith, f.1)) (λ x i. kinds_up w x f.0 (h x (there i)).0 (a.0 x i))
        ∙ ap (λ m. w ∷ m) (grouped n l a.1 (λ x i. h x (there i)))
