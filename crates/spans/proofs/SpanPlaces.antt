-- Places of ascending words, and the spans that words stand in. Assumes nothing.
use Prim.Native.Nat.{ℕ, ◌+◌, ◌≤◌, ◌<◌}
use mathlib.Core.Path.{◌≡◌}
use mathlib.Core.Logic.{◌⊎◌, inl, inr}
use mathlib.Core.Bool.{Bool, true, false}
use mathlib.Core.List.{List}
use native.Mathlib.Nat.{eq-or-lt_of_le}
use native.Mathlib.Decide.{dec_lt}
use native.Mathlib.Omega.{arith}
use lib.Dec.{ltb}
use lib.ListN.{length}
use borrow.Author.Tests.{lt-ltb, ltb-true, ltb-false}
use Rattle.std.proofs.lemmas.List.{get_or_default}
use Rattle.std.specs.List.Sorted.{IsPartitionedBy, IsPartitionPoint}
use Rattle.table.specs.Answers.{Decides}
use Rattle.table.specs.Parts.{kind_of, first_of, second_of}
use Rattle.table.specs.Counted.{Id}
use Rattle.table.proofs.Arity.{shaped_some, shaped_within}
use Rattle.spans.specs.Spans.{span_of, IsSpan, at, Has, FactWords, Before, Below}
use Rattle.spans.specs.Sought.{Kind}

-- Below, or not; below, at, or above.
pub split : (a b : ℕ) → (a < b) ⊎ (b ≤ a)
split a b = elim (dec_lt a b) [ yes h ↦ inl h | no h ↦ inr (omega arith) ]

pub compare : (a b : ℕ) → (a < b) ⊎ ((b ≡ a) ⊎ (b < a))
compare a b = elim (dec_lt a b) [ yes h ↦ inl h | no h ↦ inr (eq-or-lt_of_le (omega arith)) ]

-- Spans ascend with their words.
pub span_mono : (v w : ℕ) → Id (first_of v) → v ≤ w → span_of v ≤ span_of w
span_mono v w i h = omega arith

pub span_below : (v w : ℕ) → Id (first_of w) → span_of v < span_of w → v < w
span_below v w i h = omega arith

pub span_counted : (w : ℕ) → Kind (kind_of w) → Id (first_of w) → IsSpan (span_of w)
span_counted w (h, l) i = (omega arith, omega arith)

-- Within a span the second ids ascend.
pub span_seconds : (v w : ℕ) → Id (first_of v) → Id (first_of w) → v < w → span_of v ≡ span_of w → second_of v ≤ second_of w
span_seconds v w i j h e = omega arith

module _ {t : List ℕ} (F : FactWords t) where
  pub words_ascend : (i j : ℕ) → i ≤ j → j < length t → at t i ≤ at t j
  words_ascend i j h l = by_case (compare i j)
    where
      by_case : (i < j) ⊎ ((j ≡ i) ⊎ (j < i)) → at t i ≤ at t j
      by_case (inl a) = omega (arith, F.ascending i j a l)
      by_case (inr (inl e)) = rw e (omega arith)
      by_case (inr (inr a)) = absurd (omega arith)

  pub first_id : (i : ℕ) → i < length t → Id (first_of (at t i))
  first_id i h = (F.facts i h).allowed.first

  pub is_span : (i : ℕ) → i < length t → IsSpan (span_of (at t i))
  is_span i h = let s = (F.facts i h).shaped in span_counted (at t i) (shaped_some s, shaped_within s) (first_id i h)

  pub spans_ascend : (i j : ℕ) → i ≤ j → j < length t → span_of (at t i) ≤ span_of (at t j)
  spans_ascend i j h l = span_mono (at t i) (at t j) (first_id i (omega arith)) (words_ascend i j h l)

  -- A step of a search by halving.
  pub before_up : (w m : ℕ) → m < length t → at t m < w → Before t (m + 1) w
  before_up w m l h k b = omega (arith, words_ascend k m (omega arith) l)

  pub after_down : (w m : ℕ) → w ≤ at t m → (k : ℕ) → m ≤ k → k < length t → w ≤ at t k
  after_down w m h k b l = omega (arith, words_ascend m k b l)

  -- What stands at the place of w decides whether w is there.
  pub below_decides : (w r : ℕ) → Below t w r → (b : Bool) → Decides b ((r < length t) × (at t r ≡ w)) → Decides b (Has t w)
  below_decides w r L true h = (r, h.0, h.1)
  below_decides w r L false h = λ (i, l, e). h (at_place i l e (compare i r))
    where
      at_place : (i : ℕ) → i < length t → at t i ≡ w → (i < r) ⊎ ((r ≡ i) ⊎ (r < i)) → (r < length t) × (at t r ≡ w)
      at_place i l e (inl a) = absurd (omega (arith, L.before i a))
      at_place i l e (inr (inl a)) = (omega arith, rw a e)
      at_place i l e (inr (inr a)) = absurd (omega (arith, F.ascending r i a l, L.after r (omega arith) (omega arith)))

-- What stands below w comes first, and the point where it ends is the place of w.
module _ {t : List ℕ} (F : FactWords t) (w : ℕ) where
  pub partitioned : IsPartitionedBy (λ y. ltb y w) t
  partitioned i j d h l e = lt-ltb _ _ (omega (
    arith,
    get_or_default t i d 0 (omega arith),
    get_or_default t j d 0 l,
    words_ascend F i j h l,
    ltb-true _ _ e,
  ))

  pub below_point : (r : ℕ) → r ≤ length t → IsPartitionPoint (λ y. ltb y w ≡ true) (λ y. ltb y w ≡ false) t r → Below t w r
  below_point r b (P, Q) = record {
    within = b;
    before = λ i h. ltb-true (at t i) w (P i 0 (omega arith) h);
    after = λ i h l. ltb-false (at t i) w (Q i 0 h l);
  }
