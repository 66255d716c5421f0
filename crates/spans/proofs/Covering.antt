-- Spans of words, and one pass over a span and over the words that it is looked for in. Assumes nothing.
use Prim.Native.Nat.{ℕ, ◌+◌, ◌≤◌, ◌<◌}
use mathlib.Core.Path.{◌≡◌, refl, sym, ap, subst, ◌∙◌}
use mathlib.Core.Logic.{⊎_elim}
use mathlib.Core.List.{List, [], ◌∷◌}
use mathlib.Core.Bool.{Bool}
use native.Mathlib.Nat.{eq-or-lt_of_le}
use native.Mathlib.Omega.{arith}
use lib.ListN.{length, get_or, drop, length-drop}
use lib.Seq.{get_or-drop}
use Rattle.table.specs.Answers.{Decides}
use Rattle.table.specs.Parts.{first_of, second_of}
use Rattle.table.specs.Counted.{Id}
use Rattle.spans.specs.Spans.{span_of, entry_of, IsSpan, at, Has, FactWords, Before, NotPast, Below, Indexed, SpanStart, FromSpan}
use Rattle.spans.specs.Passes.{Covered}
use Rattle.spans.proofs.Decided.{decides_as}
use Rattle.spans.proofs.SpanPlaces.{split, before_up, after_down, below_decides, span_below, span_seconds, first_id, spans_ascend}

-- A span found by the index.
module _ {t s : List ℕ} (X : Indexed t s) (j : ℕ) (J : IsSpan j) where
  pub start_none : (i : ℕ) → i ≡ at s (entry_of j) → (i < length t → span_of (at t i) ≡ j → ⊥) → SpanStart t j (length t)
  start_none i q n = record {
    within = omega arith;
    here = λ h. absurd (omega arith);
    before = λ h. absurd (omega arith);
    none = λ h k l e. apart (subst (λ (z : ℕ). (at s (entry_of z) < length t) × (span_of (at t (at s (entry_of z))) ≡ z)) e
        (X.starts.start k l));
  }
    where
      apart : (at s (entry_of j) < length t) × (span_of (at t (at s (entry_of j))) ≡ j) → ⊥
      apart h = n (omega arith) (rw q h.1)

-- The words from the start on, by their places in the table.
module _ {t words : List ℕ} {j : ℕ} (W : FromSpan t j words) (i : ℕ) where
  pub from_at : get_or words i 0 ≡ at t (W.place + i)
  from_at = ap (λ (l : List ℕ). get_or l i 0) W.rest ∙ get_or-drop W.place t i 0

  pub from_within : i < length words → W.place + i < length t
  from_within h = omega (arith, ap (λ (l : List ℕ). length l) W.rest, length-drop W.place t, W.start.within)

  pub from_end : length words ≤ i → length t ≤ W.place + i
  from_end h = omega (arith, ap (λ (l : List ℕ). length l) W.rest, length-drop W.place t, W.start.within)

-- Nothing is left from the end on.
pub none_left : (l : List ℕ) → [] ≡ drop (length l) l
none_left [] = refl
none_left (x ∷ l) = none_left l

-- Words of a span, by where it starts.
module _ {t : List ℕ} (F : FactWords t) (j r : ℕ) (S : SpanStart t j r) where
  -- A span that has a word starts before the end, and at or before that word.
  pub span_from : (m : ℕ) → m < length t → span_of (at t m) ≡ j → (r < length t) × (r ≤ m)
  span_from m l e = ⊎_elim found (λ h. absurd (S.none h m l e)) (split r (length t))
    where
      found : r < length t → (r < length t) × (r ≤ m)
      found h = (h, ⊎_elim (λ b. absurd (omega (arith, S.before h m b))) (λ b. b) (split m r))

  -- A span ends where a word of another span stands.
  pub span_past : (i : ℕ) → r ≤ i → (span_of (at t i) ≡ j → ⊥) → (m : ℕ) → i ≤ m → m < length t → span_of (at t m) ≡ j → ⊥
  span_past i a n m b l e =
      let low : span_of (at t r) ≤ span_of (at t i) = spans_ascend F r i a (omega arith) in
      let high : span_of (at t i) ≤ span_of (at t m) = spans_ascend F i m b l in
      n (same_within _ _ _ _ low high (S.here (span_from m l e).0) e)
    where
      same_within : (a b c d : ℕ) → a ≤ b → b ≤ c → a ≡ d → c ≡ d → b ≡ d
      same_within a b c d p q u v = omega arith

-- The word w looked for from the start of its span on: no word from w on stands before the place that is looked at, if the span
-- has any word.
module _ {t words : List ℕ} (F : FactWords t) (w : ℕ) (W : FromSpan t (span_of w) words) (i : ℕ) where
  pub among_none : Id (first_of w) → i ≡ 0 → 0 < length words → Before t (W.place + i) w
  among_none h e n k b = span_below (at t k) w h (W.start.before (omega (arith, from_within W 0 n)) k (omega arith))

  pub among_more : i < length words → get_or words i 0 < w → Before t (W.place + (i + 1)) w
  among_more n h = subst (λ m. Before t m w) (omega arith)
      (before_up F w (W.place + i) (from_within W i n) (rw (from_at W i) at h))

  pub among_here : i < length words → w ≤ get_or words i 0 → Before t (W.place + i) w → (b : Bool)
      → Decides b (get_or words i 0 ≡ w) → Decides b (Has t w)
  among_here n h B b d =
      below_decides F w (W.place + i) (record {
        within = omega (arith, from_within W i n);
        before = B;
        after = after_down F w (W.place + i) (rw (from_at W i) at h);
      }) b (decides_as b _ _ (λ e. (from_within W i n, sym (from_at W i) ∙ e)) (λ q. from_at W i ∙ q.1) d)

  pub among_end : length words ≤ i → (0 < length words → Before t (W.place + i) w) → Has t w → ⊥
  among_end n B (m, l, e) = ⊎_elim (λ p. omega (arith, B p m (omega (arith, from_end W i n)), e))
      (λ p. W.start.none (omega (arith, from_end W 0 p)) m l (ap (λ (z : ℕ). span_of z) e)) (split 0 (length words))

-- The words of span j before place i have their second ids, upon the base, among the words; none from the next one on stands
-- before `place`.
pub record Covering (t : List ℕ) (j r base i place : ℕ) : Type 0 where
  pub start : SpanStart t j r
  pub started : r ≤ i
  pub within : place ≤ length t
  pub done : (m : ℕ) → m < i → m < length t → span_of (at t m) ≡ j → Has t (base + second_of (at t m))
  pub next : i < length t → span_of (at t i) ≡ j → Before t place (base + second_of (at t i))

module _ {t : List ℕ} (F : FactWords t) (j r base : ℕ) where
  pub covering_none : (place : ℕ) → SpanStart t j r → NotPast t place base → Covering t j r base r place
  covering_none place S N = record {
    start = S;
    started = omega arith;
    within = N.within;
    done = λ m h n e. absurd (omega (arith, (span_from F j r S m n e).1));
    next = λ h e k n. omega (arith, N.before k n);
  }

  module _ (i place : ℕ) (C : Covering t j r base i place) where
    pub covering_more : (w after : ℕ) → i < length t → span_of (at t i) ≡ j → w ≡ base + second_of (at t i) → Below t w after
        → Has t w → Covering t j r base (i + 1) after
    covering_more w after l e we L H = record {
      start = C.start;
      started = omega (arith, C.started);
      within = L.within;
      done = λ m a b k. ⊎_elim (λ q. subst (λ (z : ℕ). Has t (base + second_of (at t z))) (sym q) (subst (Has t) we H))
          (λ q. C.done m q b k) (eq-or-lt_of_le (omega arith));
      next = λ a k z b. omega (arith, L.before z b, ascends a k);
    }
      where
        ascends : i + 1 < length t → span_of (at t (i + 1)) ≡ j → second_of (at t i) ≤ second_of (at t (i + 1))
        ascends a k = span_seconds (at t i) (at t (i + 1)) (first_id F i l) (first_id F (i + 1) a)
            (F.ascending i (i + 1) (omega arith) a) (e ∙ sym k)

    pub covering_past : (span_of (at t i) ≡ j → ⊥) → Covered t j base
    covering_past n m l e = ⊎_elim (λ q. C.done m q l e) (λ q. absurd (span_past F j r C.start i C.started n m q l e))
        (split m i)

    pub covering_end : length t ≤ i → Covered t j base
    covering_end n m l e = C.done m (omega arith) l e
