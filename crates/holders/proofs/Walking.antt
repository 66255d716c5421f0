-- Values seen while the words of one property are gone through by their links. Assumes nothing.
use Prim.Native.Nat.{ℕ, ◌-◌, ◌≤◌, ◌<◌}
use mathlib.Core.Path.{◌≡◌, sym, ap, ◌∙◌}
use mathlib.Core.Logic.{◌⊎◌, inl, inr, ⊎_elim}
use mathlib.Core.List.{List}
use native.Mathlib.Omega.{arith}
use lib.ListN.{length, set, length-set}
use Rattle.table.specs.Parts.{second_of}
use Rattle.spans.specs.Spans.{id_count, at, FactWords}
use Rattle.spans.proofs.SpanPlaces.{compare}
use Rattle.spans.proofs.Entered.{Stored, stored}
use Rattle.holders.specs.Values.{ValueAt, HeldOnce}
use Rattle.holders.specs.Links.{LinkTo}
use Rattle.holders.specs.Seen.{stamp_of, StampedUpTo}

-- The values that property z has from the link's place on, and no others, have its stamp, and none of them has two holders.
pub record Walking (t seen : List ℕ) (z link : ℕ) : Type 0 where
  pub here : 0 < link → ValueAt t z (link - 1)
  pub ids : length seen ≡ id_count
  pub most : StampedUpTo seen (stamp_of z)
  pub done : (i : ℕ) → link ≤ i → ValueAt t z i → at seen (second_of (at t i)) ≡ stamp_of z
  pub only : (y : ℕ) → at seen y ≡ stamp_of z → (i : ℕ) × (link ≤ i) × ValueAt t z i × (second_of (at t i) ≡ y)
  pub once : (i j : ℕ) → link ≤ i → link ≤ j → ValueAt t z i → ValueAt t z j → second_of (at t i) ≡ second_of (at t j) → i ≡ j

pub walking_start : {t seen : List ℕ} (z link : ℕ) → LinkTo t z (length t) link → length seen ≡ id_count → StampedUpTo seen z
    → Walking t seen z link
walking_start z link L l h = record {
  here = L.here;
  ids = l;
  most = λ y. omega (arith, h y);
  done = λ i a v. absurd (L.past i a v.0 v);
  only = λ y e. absurd (omega (arith, h y));
  once = λ i j a b v w e. absurd (L.past i a v.0 v);
}

module _ {t seen : List ℕ} {z link : ℕ} (W : Walking t seen z link) where
  pub walking_place : 0 < link → link - 1 < length t
  walking_place h = (W.here h).0

  -- Each value has a stamp.
  pub value_within : FactWords t → 0 < link → second_of (at t (link - 1)) < length seen
  value_within F h = omega (arith, W.ids, (F.facts (link - 1) (walking_place h)).allowed.second)

  pub walking_more : FactWords t → (next : ℕ) → 0 < link → LinkTo t z (link - 1) next
      → (at seen (second_of (at t (link - 1))) ≡ stamp_of z → ⊥)
      → Walking t (set seen (second_of (at t (link - 1))) (stamp_of z)) z next
  walking_more F next h L n = record {
    here = L.here;
    ids = length-set seen _ _ ∙ W.ids;
    most = λ x. ⊎_elim (λ (q, v). omega arith) (λ (q, v). omega (arith, W.most x)) (view x);
    done = λ i a v. done i v (view (second_of (at t i))) (place i a v);
    only = λ x e. ⊎_elim (λ (q, v). (link - 1, L.within, W.here h, sym q)) (λ (q, v). later x (W.only x (sym v ∙ e))) (view x);
    once = λ i j a b v w e. once i j v w e (place i a v) (place j b w);
  }
    where
      y : ℕ
      y = second_of (at t (link - 1))

      view : (x : ℕ) → Stored seen y (stamp_of z) x
      view x = stored seen y (stamp_of z) x (value_within F h)

      -- A value from the next link's place on is the one that is seen now, or was seen before.
      place : (i : ℕ) → next ≤ i → ValueAt t z i → (i ≡ link - 1) ⊎ (link ≤ i)
      place i a v = by_case (compare i (link - 1))
        where
          by_case : (i < link - 1) ⊎ ((link - 1 ≡ i) ⊎ (link - 1 < i)) → (i ≡ link - 1) ⊎ (link ≤ i)
          by_case (inl q) = absurd (L.past i a q v)
          by_case (inr (inl q)) = inl (sym q)
          by_case (inr (inr q)) = inr (omega arith)

      later : (x : ℕ) → (i : ℕ) × (link ≤ i) × ValueAt t z i × (second_of (at t i) ≡ x)
          → (i : ℕ) × (next ≤ i) × ValueAt t z i × (second_of (at t i) ≡ x)
      later x (i, a, v, e) = (i, omega (arith, L.within), v, e)

      done : (i : ℕ) → ValueAt t z i → Stored seen y (stamp_of z) (second_of (at t i)) → (i ≡ link - 1) ⊎ (link ≤ i)
          → at (set seen y (stamp_of z)) (second_of (at t i)) ≡ stamp_of z
      done i v (inl (q, f)) p = f
      done i v (inr (q, f)) (inl p) = absurd (q (ap (λ (x : ℕ). second_of (at t x)) p))
      done i v (inr (q, f)) (inr p) = f ∙ W.done i p v

      -- The value seen now was not seen before.
      fresh : (i j : ℕ) → i ≡ link - 1 → link ≤ j → ValueAt t z j → second_of (at t i) ≡ second_of (at t j) → ⊥
      fresh i j p q w e =
          n (ap (at seen) (sym (ap (λ (x : ℕ). second_of (at t x)) p) ∙ e) ∙ W.done j q w)

      once : (i j : ℕ) → ValueAt t z i → ValueAt t z j → second_of (at t i) ≡ second_of (at t j) → (i ≡ link - 1) ⊎ (link ≤ i)
          → (j ≡ link - 1) ⊎ (link ≤ j) → i ≡ j
      once i j v w e (inl p) (inl q) = p ∙ sym q
      once i j v w e (inl p) (inr q) = absurd (fresh i j p q w e)
      once i j v w e (inr p) (inl q) = absurd (fresh j i q p v (sym e))
      once i j v w e (inr p) (inr q) = W.once i j p q v w e

  pub walking_twice : 0 < link → at seen (second_of (at t (link - 1))) ≡ stamp_of z → HeldOnce t z → ⊥
  walking_twice h e once =
      let (i, a, v, q) = W.only (second_of (at t (link - 1))) e in
      omega (arith, once i (link - 1) v (W.here h) q)

  pub walking_end : link ≤ 0 → HeldOnce t z
  walking_end h i j v w e = W.once i j (omega arith) (omega arith) v w e
