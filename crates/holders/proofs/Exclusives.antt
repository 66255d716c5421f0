-- The exclusive properties, one after another, and rule E2 by the places of words. Assumes nothing.
use Prim.Native.Nat.{ℕ, ◌+◌, ◌-◌, ◌≤◌, ◌<◌}
use mathlib.Core.Path.{◌≡◌, sym, ap, subst, ◌∙◌}
use mathlib.Core.Logic.{◌⊎◌, inl, inr, ⊎_elim}
use mathlib.Core.List.{List}
use native.Mathlib.Nat.{eq-or-lt_of_le}
use native.Mathlib.Omega.{arith}
use lib.Dec.{lit≤}
use lib.ListN.{length}
use Rattle.rdfs.specs.Numbers.{kind_count, arity}
use Rattle.rdfs.specs.Rules.{Meets, e2}
use Rattle.table.specs.Parts.{kind_of, first_of, second_of, third_of}
use Rattle.table.proofs.Arity.{shaped_within}
use Rattle.spans.specs.Spans.{id_count, at, FactWords}
use Rattle.spans.specs.Passes.{OfKind}
use Rattle.spans.specs.Graphs.{Stands, graph_of}
use Rattle.spans.proofs.SpanPlaces.{compare, words_ascend}
use Rattle.spans.proofs.KindWords.{each_of}
use Rattle.spans.proofs.Passed.{word_ids, each_fact, fact_each, fact_each_one}
use Rattle.holders.specs.Values.{ValueAt, HeldOnce, AllHeldOnce, HasExclusive}
use Rattle.holders.specs.Seen.{stamp_of, StampedUpTo}

-- The exclusive properties before place i are gone through, and no stamp is above one that is left.
pub record Judging (t words seen : List ℕ) (i : ℕ) : Type 0 where
  pub kind : OfKind t 11 words
  pub done : (j : ℕ) → j < i → j < length words → HeldOnce t (first_of (at words j))
  pub ids : length seen ≡ id_count
  pub lower : (j : ℕ) → i ≤ j → j < length words → StampedUpTo seen (first_of (at words j))

module _ {t : List ℕ} (F : FactWords t) where
  -- The words of kind 11 ascend by their properties.
  properties_ascend : (i j : ℕ) → i < j → j < length t → kind_of (at t i) ≡ 11 → kind_of (at t j) ≡ 11
      → first_of (at t i) < first_of (at t j)
  properties_ascend i j h l e f =
      ascend (at t i) (at t j) (F.ascending i j h l) e f (alone i (omega arith) e) (alone j l f)
    where
      alone : (m : ℕ) → m < length t → kind_of (at t m) ≡ 11 → (second_of (at t m) ≡ 0) × (third_of (at t m) ≡ 0)
      alone m b k = let s = subst (λ x. (arity x ≤ 1) × (arity x ≤ 2)) (sym k) (lit≤ tt, lit≤ tt) in
          ((F.facts m b).shaped.second s.0, (F.facts m b).shaped.third s.1)

      ascend : (v w : ℕ) → v < w → kind_of v ≡ 11 → kind_of w ≡ 11 → (second_of v ≡ 0) × (third_of v ≡ 0)
          → (second_of w ≡ 0) × (third_of w ≡ 0) → first_of v < first_of w
      ascend v w m e f (p, q) (r, s) = omega arith

  -- The last word tells whether there is a word of kind 11, the highest.
  pub last_exclusive : (n : ℕ) → n ≡ length t → HasExclusive t → kind_of (at t (n - 1)) ≡ 11
  last_exclusive n e (i, l, k) = kind_is (at t i) (at t (n - 1)) (words_ascend F i (n - 1) (omega arith) (omega arith)) k
      (shaped_within (F.facts (n - 1) (omega arith)).shaped)
    where
      kind_is : (v w : ℕ) → v ≤ w → kind_of v ≡ 11 → kind_of w ≤ kind_count → kind_of w ≡ 11
      kind_is v w a b c = omega arith

  -- Rule E2 by facts and by places.
  pub held_exclusive : AllHeldOnce t → Meets (graph_of t) e2
  held_exclusive H x y z w e ((a, b, c), (i, l, p)) ((d, f, g), (j, m, q)) =
      let u = word_ids (at t i) 10 x y z a b c p in
      let v = word_ids (at t j) 10 w y z d f g q in
      let one = each_fact t 11 (λ x y z. HeldOnce t x) H z 0 0 e i j (l, u.0, u.3) (m, v.0, v.3) (u.2 ∙ sym v.2) in
      sym u.1 ∙ (ap (λ (k : ℕ). first_of (at t k)) one ∙ v.1)

  pub exclusive_held : Meets (graph_of t) e2 → AllHeldOnce t
  exclusive_held H = fact_each_one F 11 (lit≤ tt) (HeldOnce t) held
    where
      stands : (z i : ℕ) → ValueAt t z i → Stands t 10 (first_of (at t i)) (second_of (at t i)) z
      stands z i (l, k, p) = subst (Stands t 10 (first_of (at t i)) (second_of (at t i))) p
          (fact_each F 10 (Stands t 10) (λ a b c s. s) i l k)

      same : (v w : ℕ) → kind_of v ≡ 10 → kind_of w ≡ 10 → first_of v ≡ first_of w → second_of v ≡ second_of w
          → third_of v ≡ third_of w → v ≡ w
      same v w k n a b c = omega arith

      by_case : (i j : ℕ) → i < length t → j < length t → at t i ≡ at t j → (i < j) ⊎ ((j ≡ i) ⊎ (j < i)) → i ≡ j
      by_case i j l m e (inl a) = absurd (omega (arith, F.ascending i j a m))
      by_case i j l m e (inr (inl a)) = sym a
      by_case i j l m e (inr (inr a)) = absurd (omega (arith, F.ascending j i a l))

      held : (z : ℕ) → Stands t 11 z 0 0 → HeldOnce t z
      held z e i j v w r =
          let first = H (first_of (at t i)) (second_of (at t i)) z (first_of (at t j)) e (stands z i v)
          (subst (λ x. Stands t 10 (first_of (at t j)) x z) (sym r) (stands z j w)) in
          by_case i j v.0 w.0 (same (at t i) (at t j) v.1 w.1 first r (v.2 ∙ sym w.2)) (compare i j)

pub judging_none : {t : List ℕ} (words seen : List ℕ) → OfKind t 11 words → length seen ≡ id_count → StampedUpTo seen 0
    → Judging t words seen 0
judging_none words seen W l h = record {
  kind = W;
  done = λ j a b. absurd (omega arith);
  ids = l;
  lower = λ j a b y. omega (arith, h y);
}

module _ {t words seen : List ℕ} {i : ℕ} (J : Judging t words seen i) where
  pub judging_more : (new : List ℕ) → i < length words → HeldOnce t (first_of (at words i)) → length new ≡ length seen
      → StampedUpTo new (stamp_of (first_of (at words i))) → Judging t words new (i + 1)
  judging_more new h q l m = record {
    kind = J.kind;
    done = λ j a b. ⊎_elim (λ z. subst (λ (x : ℕ). HeldOnce t (first_of (at words x))) (sym z) q) (λ z. J.done j z b)
        (eq-or-lt_of_le (omega arith));
    ids = l ∙ J.ids;
    lower = λ j a b y. omega (
      arith,
      m y,
      properties_ascend J.kind.facts i j (omega arith) b (J.kind.here i h).0 (J.kind.here j b).0,
    );
  }

  pub judging_end : length words ≤ i → AllHeldOnce t
  judging_end h = each_of J.kind (λ x y z. HeldOnce t x) (λ j b. J.done j (omega arith) b)
