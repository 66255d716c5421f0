-- A kind carried over by stamps, one fact after another. Assumes nothing.
use Prim.Native.Nat.{ℕ, ◌+◌, ◌≤◌, ◌<◌}
use mathlib.Core.Path.{◌≡◌, refl, sym, subst}
use mathlib.Core.Logic.{⊎_elim}
use mathlib.Core.Bool.{Bool, true, false, cond}
use lib.Dec.{eqb}
use borrow.Author.Tests.{ne_eqb}
use mathlib.Core.List.{List}
use native.Mathlib.Nat.{eq-or-lt_of_le}
use native.Mathlib.Omega.{arith}
use lib.ListN.{length}
use Rattle.table.specs.Answers.{Decides}
use Rattle.table.specs.Parts.{first_of, second_of, third_of}
use Rattle.table.specs.Counted.{Id}
use Rattle.table.proofs.Arity.{kind_some}
use Rattle.spans.specs.Spans.{id_count, IsSpan, span_at, at, FactWord, FactWords}
use Rattle.spans.specs.Passes.{OfKind}
use Rattle.spans.specs.Sought.{TwoIds}
use Rattle.spans.specs.Graphs.{Stands, Each, last_of, Carried, Carries}
use Rattle.spans.specs.Stamps.{AllStamped, Stamped, StampedUpTo, Carriable}
use Rattle.spans.proofs.Decided.{decides_as}
use Rattle.spans.proofs.SpanPlaces.{spans_ascend}
use Rattle.spans.proofs.KindWords.{each_of}
use Rattle.spans.proofs.Passed.{each_fact, fact_each_two}
use Rattle.spans.proofs.Stamping.{stamped_carried, carried_stamped}

-- The last id of w and what it carries, by its ids.
abbrev pub CarriedAt : List ℕ → ℕ → ℕ → ℕ → ℕ → Type 0
CarriedAt t k m l w = Carried t k m l (first_of w) (second_of w) (third_of w)

-- The words of kind k before place i are carried, the stamps are those of the last one's span.
pub record Carrying (t words stamps : List ℕ) (k m l last i : ℕ) : Type 0 where
  pub kind : OfKind t k words
  pub done : (n : ℕ) → n < i → n < length words → CarriedAt t k m l (at words n)
  pub ids : length stamps ≡ id_count
  pub most : (z : ℕ) → at stamps z ≤ last
  pub low : (n : ℕ) → i ≤ n → n < length words → last ≤ span_at m (first_of (at words n))
  pub stamped : 0 < last → Stamped t stamps last

-- A word: the spans of its first and its last id, and how their stamps decide whether it is carried.
module _ {t : List ℕ} {k m l : ℕ} (F : FactWords t) (X : Carriable k m l) (w : ℕ) (W : FactWord w) where
  pub last_id : Id (last_of k (second_of w) (third_of w))
  last_id = pick (eqb k 10)
    where
      pick : (b : Bool) → Id (cond b (third_of w) (second_of w))
      pick true = W.allowed.third
      pick false = W.allowed.second

  module _ (span other : ℕ) (S : span ≡ span_at m (first_of w)) (O : other ≡ span_at l (last_of k (second_of w) (third_of w))) where
    pub first_counted : IsSpan span
    first_counted = (omega (arith, S, X.upper.kind.0), omega (arith, S, W.allowed.first, X.upper.kind.1))

    pub last_counted : IsSpan other
    last_counted = (omega (arith, O, X.lower.kind.0), omega (arith, O, last_id, X.lower.kind.1))

    pub stamps_decide : {stamps : List ℕ} → Stamped t stamps span → (b : Bool) → Decides b (AllStamped t stamps span other)
        → Decides b (CarriedAt t k m l w)
    stamps_decide {stamps} N b d =
        let stamped = subst (Stamped t stamps) S N in
        decides_as b _ _ (stamped_carried F m l _ _ X.upper X.lower W.allowed.first last_id stamped)
        (carried_stamped F m l _ _ X.upper X.lower W.allowed.first last_id stamped) (rw (S, O) at d)

module _ {t words stamps : List ℕ} {k m l last i : ℕ} (D : Carrying t words stamps k m l last i) where
  module _ (h : i < length words) where
    -- The stamps are those of the last span, which is this one's or comes before it.
    pub carrying_next : TwoIds m → (span : ℕ) → span ≡ span_at m (first_of (at words i)) → StampedUpTo t stamps last span
    carrying_next M span S = record {
      order = omega (arith, S, D.low i (omega arith) h);
      most = D.most;
      same = λ e. subst (Stamped t stamps) e (D.stamped (omega (arith, S, e, kind_some m (omega (arith, M.ids)))));
    }

    pub carrying_more : {new : List ℕ} (span : ℕ) → span ≡ span_at m (first_of (at words i)) → Stamped t new span
        → CarriedAt t k m l (at words i) → Carrying t words new k m l span (i + 1)
    carrying_more span S N q = record {
      kind = D.kind;
      done = λ n a b. ⊎_elim (λ z. subst (λ (x : ℕ). CarriedAt t k m l (at words x)) (sym z) q) (λ z. D.done n z b)
          (eq-or-lt_of_le (omega arith));
      ids = N.ids;
      most = N.most;
      low = λ n a b. omega (arith, S, firsts n (omega arith) b);
      stamped = λ _. N;
    }
      where
        -- the words of one kind have first ids that do not fall
        firsts : (n : ℕ) → i ≤ n → n < length words → first_of (at words i) ≤ first_of (at words n)
        firsts n a b = omega (arith, spans_ascend D.kind.facts i n a b, (D.kind.here i h).0, (D.kind.here n b).0)

  pub carrying_end : length words ≤ i → Each t k (Carried t k m l)
  carrying_end h = each_of D.kind (Carried t k m l) (λ n b. D.done n (omega arith) b)

-- A kind with two ids: its last id is the second.
module _ {t : List ℕ} (F : FactWords t) (k l : ℕ) (K : TwoIds k) where
  last_second : (b c : ℕ) → last_of k b c ≡ b
  last_second b c = rw (ne_eqb k 10 (λ e. omega (arith, (subst TwoIds e K).ids))) refl

  pub carries_each : Carries t k l → Each t k (Carried t k k l)
  carries_each C i h e = let each =
      fact_each_two F k (omega (arith, K.ids)) (λ a b. (z : ℕ) → Stands t l b z 0 → Stands t k a z 0) (λ a b p z. C a b z p) i h
      e in
      λ z s. each z (subst (λ y. Stands t l y z 0) (last_second (second_of (at t i)) (third_of (at t i))) s)

  pub each_carries : Each t k (Carried t k k l) → Carries t k l
  each_carries E =
      λ x y z p s. each_fact t k (Carried t k k l) E x y 0 p z (subst (λ v. Stands t l v z 0) (sym (last_second y 0)) s)

-- At first the stamps are 0, and no span has that number.
pub carrying_none : (t words stamps : List ℕ) (k m l : ℕ) → OfKind t k words → length stamps ≡ id_count
    → ((z : ℕ) → at stamps z ≡ 0) → Carrying t words stamps k m l 0 0
carrying_none t words stamps k m l W h z = record {
  kind = W;
  done = λ n a b. absurd (omega arith);
  ids = h;
  most = λ x. omega (arith, z x);
  low = λ n a b. omega arith;
  stamped = λ n. absurd (omega arith);
}
