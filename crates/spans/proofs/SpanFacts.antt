-- The facts of one kind and one first id, by the words of their span. Assumes nothing.
use Prim.Native.Nat.{ℕ, ◌+◌, ◌≤◌, ◌<◌}
use mathlib.Core.Path.{◌≡◌, refl, sym, ap, subst, ◌∙◌}
use mathlib.Core.Logic.{◌⊎◌, inl, inr, ⊎_elim}
use mathlib.Core.Bool.{Bool, true, false}
use mathlib.Core.List.{List}
use native.Mathlib.Omega.{arith}
use lib.ListN.{length, get_or}
use Rattle.rdfs.specs.Numbers.{arity}
use Rattle.table.specs.Answers.{Decides}
use Rattle.table.specs.Parts.{kind_of, first_of, second_of, third_of, word_of}
use Rattle.table.specs.Counted.{Id}
use Rattle.spans.specs.Spans.{span_at, span_of, entry_of, IsSpan, at, Has, FactWords, Indexed, SpanStart, FromSpan}
use Rattle.spans.specs.Passes.{Covered, group_of}
use Rattle.spans.specs.Sought.{Kind, TwoIds}
use Rattle.spans.specs.Graphs.{Stands, Inherited, Single, Only}
use Rattle.spans.proofs.SpanPlaces.{split, compare, first_id, words_ascend}
use Rattle.spans.proofs.Covering.{from_at, from_within, from_end, span_from, span_past}

-- A word of two ids, by its span and its second id.
pub kind_by_lem : (w k a : ℕ) → Id a → Id (first_of w) → span_of w ≡ span_at k a → kind_of w ≡ k
kind_by_lem w k a h i e = omega arith

word_by : (w k a : ℕ) → Id a → Id (first_of w) → span_of w ≡ span_at k a → third_of w ≡ 0 → w ≡ word_of k a (second_of w) 0
word_by w k a h i e z = omega arith

pub span_by : (w k a z : ℕ) → Id a → Id z → w ≡ word_of k a z 0 → span_of w ≡ span_at k a
span_by w k a z h l e = omega arith

pub second_by : (w k a z : ℕ) → Id a → Id z → w ≡ word_of k a z 0 → second_of w ≡ z
second_by w k a z h l e = omega arith

module _ {t : List ℕ} (F : FactWords t) (k a : ℕ) (K : TwoIds k) (A : Id a) where
  -- Each word of the span is a fact of its kind and its first id.
  pub span_stands : (i : ℕ) → i < length t → span_of (at t i) ≡ span_at k a → Stands t k a (second_of (at t i)) 0
  span_stands i l e =
      let w = F.facts i l in
      let is_kind = kind_by_lem (at t i) k a A (first_id F i l) e in (
        (A, w.allowed.second, omega arith),
        (
          i,
          l,
          word_by (at t i) k a A (first_id F i l) e (w.shaped.third (subst (λ x. arity x ≤ 2) (sym is_kind)
              (omega (arith, K.ids)))),
        ),
      )

  -- The words of the span have second ids that differ.
  pub span_differ : (i j : ℕ) → i < j → j < length t → span_of (at t i) ≡ span_at k a → span_of (at t j) ≡ span_at k a
      → second_of (at t i) ≡ second_of (at t j) → ⊥
  unfolding span_stands
  span_differ i j h l e f q =
      differ (at t i) (at t j) (F.ascending i j h l) (span_stands i (omega arith) e).1.2 (span_stands j l f).1.2
    where
      differ : (v w : ℕ) → v < w → v ≡ word_of k a (second_of (at t i)) 0 → w ≡ word_of k a (second_of (at t j)) 0 → ⊥
      differ v w m x y = omega (arith, q)

  module _ (r : ℕ) (S : SpanStart t (span_at k a) r) where
    -- A fact of the span stands at or after its start.
    pub stands_from : (z : ℕ) → Stands t k a z 0 → (r < length t) × ((m : ℕ) × (r ≤ m) × (m < length t)
        × (span_of (at t m) ≡ span_at k a) × (second_of (at t m) ≡ z))
    stands_from z ((p, q, o), (m, l, e)) =
        let same = span_by (at t m) k a z A q e in
        let from = span_from F _ r S m l same in
        (from.0, (m, from.1, l, same, second_by (at t m) k a z A q e))

    pub stands_none : length t ≤ r → (z : ℕ) → Stands t k a z 0 → ⊥
    stands_none h z q = omega (arith, (stands_from z q).0)

    pub only_here : Single t k → r < length t → Only t k a (second_of (at t r))
    only_here U l =
        let stands = span_stands r l (S.here l) in
        record { some = stands; all = λ w q. U a w (second_of (at t r)) q stands }

    -- The span has no second word.
    pub only_one : (r + 1 < length t → span_of (at t (r + 1)) ≡ span_at k a → ⊥) → (z : ℕ) → Stands t k a z 0
        → second_of (at t r) ≡ z
    only_one n z q = let (l, (m, b, h, e, f)) = stands_from z q in by_case m h e f (compare m r)
      where
        by_case : (m : ℕ) → m < length t → span_of (at t m) ≡ span_at k a → second_of (at t m) ≡ z → (m < r) ⊎ ((r ≡ m) ⊎ (r < m))
            → second_of (at t r) ≡ z
        by_case m h e f (inl p) = absurd (omega (arith, (span_from F _ r S m h e).1))
        by_case m h e f (inr (inl p)) = rw p f
        by_case m h e f (inr (inr p)) = absurd (span_past F _ r S (r + 1) (omega arith) (n (omega arith)) m (omega arith) h e)

-- The facts by the words from the first of the span on.
module _ {t words : List ℕ} (F : FactWords t) (k a : ℕ) (K : TwoIds k) (A : Id a) (W : FromSpan t (span_at k a) words) where
  first_at : get_or words 0 0 ≡ at t W.place
  first_at = from_at W 0 ∙ ap (at t) (omega arith)

  first_within : 0 < length words → W.place < length t
  first_within h = omega (arith, from_within W 0 h)

  pub first_none : length words ≤ 0 → (z : ℕ) → Stands t k a z 0 → ⊥
  first_none h = stands_none F k a K A W.place W.start (omega (arith, from_end W 0 h))

  pub first_stands : 0 < length words → Stands t k a (second_of (get_or words 0 0)) 0
  first_stands h = rw first_at (span_stands F k a K A W.place (first_within h) (W.start.here (first_within h)))

  pub first_only : Single t k → 0 < length words → Only t k a (second_of (get_or words 0 0))
  first_only U h = rw first_at (only_here F k a K A W.place W.start U (first_within h))

  -- No second word is of the span.
  pub first_alone : (1 < length words → span_of (get_or words 1 0) ≡ span_at k a → ⊥) → (z : ℕ) → Stands t k a z 0
      → second_of (get_or words 0 0) ≡ z
  first_alone n z q = rw first_at (only_one F k a K A W.place W.start (λ l e. n (inside l) (rw (from_at W 1) e)) z q)
    where
      inside : W.place + 1 < length t → 1 < length words
      inside l = ⊎_elim (λ h. h) (λ h. absurd (omega (arith, from_end W 1 h))) (split 1 (length words))

  -- A second word is of another fact.
  pub next_apart : (h : 1 < length words) → span_of (get_or words 1 0) ≡ span_at k a
      → ((z : ℕ) → Stands t k a z 0 → second_of (get_or words 0 0) ≡ z) → ⊥
  next_apart h e f = span_differ F k a K A W.place (W.place + 1) (omega arith) next (W.start.here (first_within (omega arith)))
      (rw (from_at W 1) at e)
      (ap second_of (sym first_at) ∙ f _ (span_stands F k a K A (W.place + 1) next (rw (from_at W 1) at e)))
    where
      next : W.place + 1 < length t
      next = from_within W 1 h

-- The least word of a span would be its first: what stands at the span's place in the index decides whether it is there.
least_word : (w k a : ℕ) → Id a → Id (first_of w) → span_of w ≡ span_at k a → word_of k a 0 0 ≤ w
least_word w k a h i e = omega arith

module _ {t s : List ℕ} (X : Indexed t s) (k a i w : ℕ) (K : Kind k) (A : Id a) (I : i ≡ at s (entry_of (span_at k a)))
    (W : w ≡ word_of k a 0 0) where
  least_first : Has t (word_of k a 0 0) → (i < length t) × (at t i ≡ w)
  least_first (m, l, e) = (within, same_within (at t i) (at t m) (words_ascend X.words i m from l) least e)
    where
      same : span_of (at t m) ≡ span_at k a
      same = span_by (at t m) k a 0 A (omega arith) e

      start : (at s (entry_of (span_at k a)) < length t) × (span_of (at t (at s (entry_of (span_at k a)))) ≡ span_at k a)
      start = subst (λ (z : ℕ). (at s (entry_of z) < length t) × (span_of (at t (at s (entry_of z))) ≡ z)) same
          (X.starts.start m l)

      within : i < length t
      within = omega (arith, start.0)

      is_span : IsSpan (span_at k a)
      is_span = (omega (arith, K.0), omega (arith, K.1))

      from : i ≤ m
      from =
          ⊎_elim (λ h. absurd (omega (arith, same, X.starts.before (span_at k a) m is_span (omega arith)))) (λ h. h) (split m i)

      least : word_of k a 0 0 ≤ at t i
      least = least_word (at t i) k a A (first_id X.words i within) (rw I start.1)

      same_within : (u v : ℕ) → u ≤ v → word_of k a 0 0 ≤ u → v ≡ word_of k a 0 0 → u ≡ w
      same_within u v p q r = omega (arith, W)

  pub least_decides : (b : Bool) → Decides b ((i < length t) × (at t i ≡ w)) → Decides b (Stands t k a 0 0)
  least_decides true h = ((A, omega arith, omega arith), (i, h.0, h.1 ∙ W))
  least_decides false h = λ q. h (least_first q.1)

-- A span of links that is covered, by the values with the same subject and object.
pub group_word : (w : ℕ) → kind_of w ≡ 10 → group_of w ≡ word_of 10 (first_of w) (second_of w) 0
group_word w e = omega arith

module _ (t : List ℕ) (a b c : ℕ) (A : Id a) (B : Id b) (C : Id c) where
  pub covered_inherited : Covered t (span_at 6 c) (word_of 10 a b 0) → Inherited t a b c
  covered_inherited W z ((p, q, o), (i, h, e)) =
      ((A, B, q), subst (Has t) (same (at t i) e) (W i h (span_by (at t i) 6 c z C q e)))
    where
      same : (w : ℕ) → w ≡ word_of 6 c z 0 → word_of 10 a b 0 + second_of w ≡ word_of 10 a b z
      same w f = omega (arith, second_by w 6 c z C q f)

  pub inherited_covered : FactWords t → Inherited t a b c → Covered t (span_at 6 c) (word_of 10 a b 0)
  inherited_covered F U i h e = subst (Has t) (omega arith)
      (U (second_of (at t i)) (span_stands F 6 c (record { kind = (omega arith, omega arith); ids = refl }) C i h e)).1

-- The one second id of a's facts of a kind.
module _ {t : List ℕ} {k a r : ℕ} (O : Only t k a r) where
  pub only_is : (P : ℕ → Type 0) → P r → (z : ℕ) → Stands t k a z 0 → P z
  only_is P p z q = subst P (sym (O.all z q)) p

pub only_both : {t : List ℕ} {k a b z w : ℕ} → Only t k a z → Only t k b w → (P : ℕ → ℕ → Type 0) → P z w → (x y : ℕ)
    → Stands t k a x 0 → Stands t k b y 0 → P x y
only_both {w = w} O Q P p x y q r = only_is Q (P x) (only_is O (λ v. P v w) p x q) y r
