-- Stamps compared with the second ids of a span, one word after another. Assumes nothing.
use Prim.Native.Nat.{ℕ, ◌+◌, ◌≤◌, ◌<◌}
use mathlib.Core.Path.{◌≡◌, sym, subst}
use mathlib.Core.Logic.{⊎_elim}
use mathlib.Core.List.{List}
use native.Mathlib.Nat.{eq-or-lt_of_le}
use native.Mathlib.Omega.{arith}
use lib.ListN.{length}
use Rattle.table.specs.Parts.{second_of}
use Rattle.spans.specs.Spans.{span_of, at, FactWords, SpanStart}
use Rattle.spans.specs.Stamps.{AllStamped}
use Rattle.spans.proofs.SpanPlaces.{split}
use Rattle.spans.proofs.Covering.{span_from, span_past}

-- The second ids of the span q before place i have the stamp j.
pub record Comparing (t stamps : List ℕ) (j q r i : ℕ) : Type 0 where
  pub start : SpanStart t q r
  pub started : r ≤ i
  pub done : (m : ℕ) → m < i → m < length t → span_of (at t m) ≡ q → at stamps (second_of (at t m)) ≡ j

module _ {t : List ℕ} (F : FactWords t) (stamps : List ℕ) (j q r : ℕ) where
  pub comparing_none : SpanStart t q r → Comparing t stamps j q r r
  comparing_none S =
      record { start = S; started = omega arith; done = λ m b n e. absurd (omega (arith, (span_from F q r S m n e).1)) }

  module _ (i : ℕ) (D : Comparing t stamps j q r i) where
    pub comparing_more : at stamps (second_of (at t i)) ≡ j → Comparing t stamps j q r (i + 1)
    comparing_more e = record {
      start = D.start;
      started = omega (arith, D.started);
      done = λ m b n k. ⊎_elim (λ p. subst (λ (x : ℕ). at stamps (second_of (at t x)) ≡ j) (sym p) e) (λ p. D.done m p n k)
          (eq-or-lt_of_le (omega arith));
    }

    pub comparing_past : (span_of (at t i) ≡ q → ⊥) → AllStamped t stamps j q
    comparing_past n m l e = ⊎_elim (λ p. D.done m p l e) (λ p. absurd (span_past F q r D.start i D.started n m p l e))
        (split m i)

    pub comparing_end : length t ≤ i → AllStamped t stamps j q
    comparing_end h m l e = D.done m (omega arith) l e
