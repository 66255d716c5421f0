-- The words of one kind, one after another, and the facts of that kind. Assumes nothing.
use Prim.Native.Nat.{ℕ, ◌+◌, ◌≤◌, ◌<◌}
use mathlib.Core.Path.{◌≡◌, sym, subst}
use mathlib.Core.Logic.{⊎_elim}
use mathlib.Core.List.{List}
use native.Mathlib.Nat.{eq-or-lt_of_le}
use native.Mathlib.Omega.{arith}
use lib.ListN.{length}
use Rattle.rdfs.specs.Numbers.{arity}
use Rattle.table.specs.Parts.{kind_of, first_of, second_of, third_of, word_of}
use Rattle.table.specs.Counted.{Id}
use Rattle.spans.specs.Spans.{at, FactWords, Below}
use Rattle.spans.specs.Graphs.{Stands, Each}
use Rattle.spans.proofs.SpanPlaces.{split}

-- The places from i up to `end` have the words of kind k that are left; those before i have ids with Q.
pub record Passed (t : List ℕ) (k : ℕ) (Q : ℕ → ℕ → ℕ → Type 0) (end i : ℕ) : Type 0 where
  pub within : end ≤ length t
  pub left : (m : ℕ) → i ≤ m → m < end → kind_of (at t m) ≡ k
  pub done : (m : ℕ) → m < i → m < length t → kind_of (at t m) ≡ k → Q (first_of (at t m)) (second_of (at t m)) (third_of (at t m))
  pub none : (m : ℕ) → end ≤ m → m < length t → kind_of (at t m) ≡ k → ⊥

module _ {t : List ℕ} (k : ℕ) (Q : ℕ → ℕ → ℕ → Type 0) where
  pub passed_none : (i end v w : ℕ) → v ≡ word_of k 0 0 0 → w ≡ word_of (k + 1) 0 0 0 → Below t v i → Below t w end
      → Passed t k Q end i
  passed_none i end v w p q L M = record {
    within = M.within;
    left = λ m a b. kind_is (at t m) (rw p at (L.after m a (omega (arith, M.within)))) (rw q at (M.before m b));
    done = λ m a b f. absurd (omega (arith, L.before m a));
    none = λ m a b f. absurd (omega (arith, M.after m a b));
  }
    where
      kind_is : (x : ℕ) → word_of k 0 0 0 ≤ x → x < word_of (k + 1) 0 0 0 → kind_of x ≡ k
      kind_is x a b = omega arith

  module _ (i end : ℕ) (D : Passed t k Q end i) where
    pub passed_more : i < end → Q (first_of (at t i)) (second_of (at t i)) (third_of (at t i)) → Passed t k Q end (i + 1)
    passed_more h q = record {
      within = D.within;
      left = λ m a b. D.left m (omega arith) b;
      done = λ m a b f. ⊎_elim (λ z. subst (λ (x : ℕ). Q (first_of (at t x)) (second_of (at t x)) (third_of (at t x))) (sym z) q)
          (λ z. D.done m z b f) (eq-or-lt_of_le (omega arith));
      none = D.none;
    }

    pub passed_end : end ≤ i → Each t k Q
    passed_end h m l f = ⊎_elim (λ z. D.done m (omega arith) l f) (λ z. absurd (D.none m z l f)) (split m end)

-- From the words of a kind to its facts.
pub word_ids : (w k a b c : ℕ) → Id a → Id b → Id c → w ≡ word_of k a b c → (kind_of w ≡ k) × (first_of w ≡ a) × (second_of w ≡ b)
    × (third_of w ≡ c)
word_ids w k a b c p q r e = (omega arith, omega arith, omega arith, omega arith)

pub each_fact : (t : List ℕ) (k : ℕ) (Q : ℕ → ℕ → ℕ → Type 0) → Each t k Q → (a b c : ℕ) → Stands t k a b c → Q a b c
each_fact t k Q E a b c ((p, q, r), (i, l, e)) =
    let ids = word_ids (at t i) k a b c p q r e in
    subst (λ x. Q x b c) ids.1 (subst (λ x. Q (first_of (at t i)) x c) ids.2
    (subst (Q (first_of (at t i)) (second_of (at t i))) ids.3 (E i l ids.0)))

-- And back, for a kind with three ids, with two, with one.
module _ {t : List ℕ} (F : FactWords t) (k : ℕ) where
  pub fact_each : (Q : ℕ → ℕ → ℕ → Type 0) → ((a b c : ℕ) → Stands t k a b c → Q a b c) → Each t k Q
  fact_each Q f i l e =
      let ids = (F.facts i l).allowed in
      f _ _ _ ((ids.first, ids.second, ids.third), (i, l, whole (at t i) e))
    where
      whole : (w : ℕ) → kind_of w ≡ k → w ≡ word_of k (first_of w) (second_of w) (third_of w)
      whole w e = omega arith

  pub fact_each_two : arity k ≤ 2 → (Q : ℕ → ℕ → Type 0) → ((a b : ℕ) → Stands t k a b 0 → Q a b) → Each t k (λ a b c. Q a b)
  fact_each_two h Q f i l e = fact_each (λ a b c. c ≡ 0 → Q a b) (λ a b c s z. f a b (subst (Stands t k a b) z s)) i l e
      ((F.facts i l).shaped.third (subst (λ x. arity x ≤ 2) (sym e) h))

  pub fact_each_one : arity k ≤ 1 → (Q : ℕ → Type 0) → ((a : ℕ) → Stands t k a 0 0 → Q a) → Each t k (λ a b c. Q a)
  fact_each_one h Q f i l e = fact_each_two (omega arith) (λ a b. b ≡ 0
      → Q a) (λ a b s z. f a (subst (λ x. Stands t k a x 0) z s)) i l e ((F.facts i l).shaped.second
      (subst (λ x. arity x ≤ 1) (sym e) h))
