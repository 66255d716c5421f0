-- Stamps while a span is gone through, and what they say of its facts. Assumes nothing.
use Prim.Native.Nat.{ℕ, ◌+◌, ◌≤◌, ◌<◌}
use mathlib.Core.Path.{◌≡◌, sym, ap, subst, ◌∙◌}
use mathlib.Core.Logic.{⊎_elim}
use mathlib.Core.List.{List}
use native.Mathlib.Nat.{eq-or-lt_of_le}
use native.Mathlib.Omega.{arith}
use lib.ListN.{length, set, length-set}
use Rattle.table.specs.Parts.{second_of}
use Rattle.table.specs.Counted.{Id}
use Rattle.spans.specs.Spans.{id_count, span_at, span_of, at, FactWords, SpanStart}
use Rattle.spans.specs.Sought.{TwoIds}
use Rattle.spans.specs.Graphs.{Stands}
use Rattle.spans.specs.Stamps.{InSpan, AllStamped, Stamped}
use Rattle.spans.proofs.SpanPlaces.{split}
use Rattle.spans.proofs.Entered.{Stored, stored}
use Rattle.spans.proofs.Covering.{span_from, span_past}
use Rattle.spans.proofs.SpanFacts.{span_by, second_by, span_stands}

-- Each second id has a stamp.
pub id_within : {t : List ℕ} → FactWords t → (i n : ℕ) → i < length t → n ≡ id_count → second_of (at t i) < n
id_within F i n l e = omega (arith, e, (F.facts i l).allowed.second)

-- The second ids of the words of span j before place i, and no others, have its number; no stamp is higher.
pub record Stamping (t stamps : List ℕ) (j r i : ℕ) : Type 0 where
  pub start : SpanStart t j r
  pub started : r ≤ i
  pub ids : length stamps ≡ id_count
  pub most : (z : ℕ) → at stamps z ≤ j
  pub done : (m : ℕ) → m < i → m < length t → span_of (at t m) ≡ j → at stamps (second_of (at t m)) ≡ j
  pub only : (z : ℕ) → at stamps z ≡ j → InSpan t j z

module _ {t : List ℕ} (F : FactWords t) (j r : ℕ) where
  pub stamping_none : (stamps : List ℕ) → SpanStart t j r → length stamps ≡ id_count → ((z : ℕ) → at stamps z < j)
      → Stamping t stamps j r r
  stamping_none stamps S l h = record {
    start = S;
    started = omega arith;
    ids = l;
    most = λ z. omega (arith, h z);
    done = λ m b n e. absurd (omega (arith, (span_from F j r S m n e).1));
    only = λ z e. absurd (omega (arith, h z));
  }

  module _ {stamps : List ℕ} (i : ℕ) (M : Stamping t stamps j r i) where
    pub stamping_more : i < length t → span_of (at t i) ≡ j → Stamping t (set stamps (second_of (at t i)) j) j r (i + 1)
    stamping_more l e = record {
      start = M.start;
      started = omega (arith, M.started);
      ids = length-set stamps _ _ ∙ M.ids;
      most = λ z. ⊎_elim (λ (q, v). omega arith) (λ (n, v). omega (arith, M.most z)) (view z);
      done = λ m b n k. ⊎_elim (λ (q, v). v) (λ (p, v). v ∙ M.done m (earlier m b p) n k) (view (second_of (at t m)));
      only = λ z k. ⊎_elim (λ (q, v). (i, l, e, sym q)) (λ (n, v). M.only z (sym v ∙ k)) (view z);
    }
      where
        view : (z : ℕ) → Stored stamps (second_of (at t i)) j z
        view z = stored stamps (second_of (at t i)) j z (id_within F i _ l M.ids)

        earlier : (m : ℕ) → m < i + 1 → (second_of (at t m) ≡ second_of (at t i) → ⊥) → m < i
        earlier m b p = ⊎_elim (λ q. absurd (p (ap (λ (x : ℕ). second_of (at t x)) q))) (λ q. q) (eq-or-lt_of_le (omega arith))

    pub stamping_past : (span_of (at t i) ≡ j → ⊥) → Stamped t stamps j
    stamping_past n = record {
      ids = M.ids;
      most = M.most;
      all = λ m l e. ⊎_elim (λ q. M.done m q l e) (λ q. absurd (span_past F j r M.start i M.started n m q l e))
          (split m i);
      only = M.only;
    }

    pub stamping_end : length t ≤ i → Stamped t stamps j
    stamping_end h = record { ids = M.ids; most = M.most; all = λ m l e. M.done m (omega arith) l e; only = M.only }

-- The stamps of a span, by its facts.
module _ {t stamps : List ℕ} (F : FactWords t) (k l a b : ℕ) (K : TwoIds k) (L : TwoIds l) (A : Id a) (B : Id b)
    (M : Stamped t stamps (span_at k a)) where
  pub stamped_carried : AllStamped t stamps (span_at k a) (span_at l b) → (z : ℕ) → Stands t l b z 0 → Stands t k a z 0
  stamped_carried H z ((p, q, o), (i, h, e)) =
      let same = second_by (at t i) l b z B q e in
      let (m, n, f, g) = M.only z (subst (λ (x : ℕ). at stamps x ≡ span_at k a) same (H i h (span_by (at t i) l b z B q e))) in
      subst (λ x. Stands t k a x 0) g (span_stands F k a K A m n f)

  pub carried_stamped : ((z : ℕ) → Stands t l b z 0 → Stands t k a z 0) → AllStamped t stamps (span_at k a) (span_at l b)
  carried_stamped H i h e =
      let ((p, q, o), (m, n, f)) = H (second_of (at t i)) (span_stands F l b L B i h e) in
      let same : second_of (at t m) ≡ second_of (at t i) = second_by (at t m) k a (second_of (at t i)) A q f in
      subst (λ (x : ℕ). at stamps x ≡ span_at k a) same (M.all m n (span_by (at t m) k a (second_of (at t i)) A q f))
