-- The index of spans while it is filled from the last word down. Assumes nothing.
use Prim.Native.Nat.{ℕ, zero, suc, ◌-◌, ◌≤◌, ◌<◌}
use mathlib.Core.Path.{◌≡◌, refl, sym, ap, subst, ◌∙◌}
use mathlib.Core.Logic.{◌⊎◌, inl, inr}
use mathlib.Core.List.{List}
use native.Mathlib.Omega.{arith}
use lib.ListN.{length, set, replicate, length-set}
use lib.Seq.{get_or-set_same, get_or-set_other}
use Rattle.spans.specs.Spans.{span_of, span_count, entry_of, IsSpan, at, FactWords, Index}
use Rattle.spans.proofs.SpanPlaces.{compare, is_span, spans_ascend}

-- The place of a span is 0, where nothing is entered, or one of its words.
abbrev Own : List ℕ → List ℕ → ℕ → Type 0
Own t s j = (at s (entry_of j) ≡ 0) ⊎ ((at s (entry_of j) < length t) × (span_of (at t (at s (entry_of j))) ≡ j))

-- The words from place i on are entered.
pub record Entered (t s : List ℕ) (i : ℕ) : Type 0 where
  pub spans : length s ≡ span_count
  pub within : i ≤ length t
  pub low : (m : ℕ) → i ≤ m → m < length t → at s (entry_of (span_of (at t m))) ≤ m
  pub own : (j : ℕ) → IsSpan j → Own t s j
  pub start : (m : ℕ) → i ≤ m → m < length t → span_of (at t (at s (entry_of (span_of (at t m))))) ≡ span_of (at t m)

-- What a store leaves at a place.
abbrev pub Stored : List ℕ → ℕ → ℕ → ℕ → Type 0
Stored s k v j = ((j ≡ k) × (at (set s k v) j ≡ v)) ⊎ ((j ≡ k → ⊥) × (at (set s k v) j ≡ at s j))

pub stored : (s : List ℕ) (k v j : ℕ) → k < length s → Stored s k v j
stored s k v j h = by_case (compare j k)
  where
    by_case : (j < k) ⊎ ((k ≡ j) ⊎ (k < j)) → Stored s k v j
    by_case (inl a) = inr ((λ e. omega arith), get_or-set_other s k j v 0 (omega arith))
    by_case (inr (inl e)) = inl (sym e, rw (← e) (get_or-set_same s k v 0 h))
    by_case (inr (inr a)) = inr ((λ e. omega arith), get_or-set_other s k j v 0 (omega arith))

pub zeros_at : (n j : ℕ) → at (replicate n 0) j ≡ 0
zeros_at zero j = refl
zeros_at (suc n) zero = refl
zeros_at (suc n) (suc j) = zeros_at n j

pub entered_none : (t s : List ℕ) → length s ≡ span_count → ((j : ℕ) → at s j ≡ 0) → Entered t s (length t)
entered_none t s l z = record {
  spans = l;
  within = omega arith;
  low = λ m a b. absurd (omega arith);
  own = λ j q. inl (z (entry_of j));
  start = λ m a b. absurd (omega arith);
}

-- The span that is entered next, and the index with it.
abbrev next_span : List ℕ → ℕ → ℕ
next_span t i = span_of (at t (i - 1))

abbrev next_index : List ℕ → List ℕ → ℕ → List ℕ
next_index t s i = set s (entry_of (next_span t i)) (i - 1)

-- Two spans have two entries.
entry_one : (j k : ℕ) → IsSpan j → IsSpan k → entry_of j ≡ entry_of k → j ≡ k
entry_one j k (p, q) (r, s) e = omega arith

module _ {t s : List ℕ} (F : FactWords t) (i : ℕ) (p : 0 < i) (E : Entered t s i) where
  pub next_is_span : IsSpan (next_span t i)
  next_is_span = is_span F (i - 1) (omega (arith, E.within))

  -- The place of the store is in the index.
  pub entry_within : entry_of (next_span t i) < length s
  entry_within = omega (arith, E.spans, next_is_span.1)

  pub entered_more : Entered t (next_index t s i) (i - 1)
  entered_more = record {
    spans = length-set s _ _ ∙ E.spans;
    within = omega (arith, E.within);
    low = λ m a b. low m a b (view (entry_of (span_of (at t m)))) (compare m (i - 1));
    own = λ j q. own j q (view (entry_of j));
    start = λ m a b. start m a b (view (entry_of (span_of (at t m)))) (compare m (i - 1));
  }
    where
      Next : ℕ → Type 0
      Next = Stored s (entry_of (next_span t i)) (i - 1)

      view : (j : ℕ) → Next j
      view j = stored s (entry_of (next_span t i)) (i - 1) j entry_within

      same_span : {m : ℕ} → i - 1 ≡ m → entry_of (span_of (at t m)) ≡ entry_of (next_span t i)
      same_span d = ap (λ (z : ℕ). entry_of (span_of (at t z))) (sym d)

      low : (m : ℕ) → i - 1 ≤ m → m < length t → Next (entry_of (span_of (at t m))) → (m < i - 1)
          ⊎ ((i - 1 ≡ m) ⊎ (i - 1 < m)) → at (next_index t s i) (entry_of (span_of (at t m))) ≤ m
      low m a b (inl (e, f)) d = omega arith
      low m a b (inr (n, f)) (inl d) = absurd (omega arith)
      low m a b (inr (n, f)) (inr (inl d)) = absurd (n (same_span d))
      low m a b (inr (n, f)) (inr (inr d)) = omega (arith, E.low m (omega arith) b)

      own : (j : ℕ) → IsSpan j → Next (entry_of j) → Own t (next_index t s i) j
      own j q (inl (e, f)) = inr (
        omega (arith, E.within),
        ap (λ (z : ℕ). span_of (at t z)) f ∙ sym (entry_one j (next_span t i) q next_is_span e),
      )
      own j q (inr (n, f)) = rw f (E.own j q)

      start : (m : ℕ) → i - 1 ≤ m → m < length t → Next (entry_of (span_of (at t m))) → (m < i - 1)
          ⊎ ((i - 1 ≡ m) ⊎ (i - 1 < m)) → span_of (at t (at (next_index t s i) (entry_of (span_of (at t m))))) ≡ span_of (at t m)
      start m a b (inl (e, f)) d = ap (λ (z : ℕ). span_of (at t z)) f ∙ sym (entry_one _ _ (is_span F m b) next_is_span e)
      start m a b (inr (n, f)) (inl d) = absurd (omega arith)
      start m a b (inr (n, f)) (inr (inl d)) = absurd (n (same_span d))
      start m a b (inr (n, f)) (inr (inr d)) = ap (λ (z : ℕ). span_of (at t z)) f ∙ E.start m (omega arith) b

pub entered_all : {t s : List ℕ} → FactWords t → Entered t s 0 → Index t s
entered_all {t} {s} F E = record {
  spans = E.spans;
  before = λ j k q h. before j k h (E.own j q);
  start = λ i h. (omega (arith, E.low i (omega arith) h), E.start i (omega arith) h);
}
  where
    before : (j k : ℕ) → k < at s (entry_of j) → Own t s j → span_of (at t k) < j
    before j k h (inl z) = absurd (omega arith)
    before j k h (inr (l, e)) = by_case (compare (span_of (at t k)) j)
      where
        at_most : span_of (at t k) ≤ j
        at_most = subst (λ (z : ℕ). span_of (at t k) ≤ z) e (spans_ascend F k (at s (entry_of j)) (omega arith) l)

        by_case : (span_of (at t k) < j) ⊎ ((j ≡ span_of (at t k)) ⊎ (j < span_of (at t k))) → span_of (at t k) < j
        by_case (inl a) = a
        by_case (inr (inl a)) =
            absurd (later (subst (λ (z : ℕ). at s (entry_of z) ≤ k) (sym a) (E.low k (omega arith) (omega arith))))
          where
            later : at s (entry_of j) ≤ k → ⊥
            later q = omega arith
        by_case (inr (inr a)) = absurd (omega (arith, at_most))
