-- Links while they are laid from the first value on. Assumes nothing.
use Prim.Native.Nat.{ℕ, ◌+◌, ◌≤◌, ◌<◌}
use mathlib.Core.Path.{◌≡◌, refl, sym, ap, subst, ◌∙◌}
use mathlib.Core.Logic.{inl, inr, ⊎_elim}
use mathlib.Core.List.{List}
use native.Mathlib.Nat.{eq-or-lt_of_le}
use native.Mathlib.Omega.{arith}
use lib.ListN.{length, set, length-set}
use Rattle.rdfs.specs.Numbers.{product}
use Rattle.table.specs.Parts.{third_of, word_of}
use Rattle.table.specs.Counted.{Id}
use Rattle.spans.specs.Spans.{at, Below}
use Rattle.spans.proofs.SpanPlaces.{split}
use Rattle.spans.proofs.Entered.{Stored, stored}
use Rattle.spans.proofs.Passed.{Passed, passed_none, passed_more}
use Rattle.holders.specs.Values.{ValueAt}
use Rattle.holders.specs.Links.{LinkTo, latest_at, Linkable, NoneLinked, Linked}

-- Nothing is asked of the values but their kind.
abbrev Any : ℕ → ℕ → ℕ → Type 0
Any x y z = Unit {0}

-- The values before place i are linked, and those left stand from there up to `end`.
pub record Linking (t links : List ℕ) (end i : ℕ) : Type 0 where
  pub linkable : Linkable t links
  pub within : i ≤ length t
  pub values : Passed t 10 Any end i
  pub last : (z : ℕ) → LinkTo t z i (at links (latest_at z))
  pub next : (z j : ℕ) → j < i → ValueAt t z j → LinkTo t z j (at links j)

-- No value stands before the first.
link_none : (t : List ℕ) (z i : ℕ) → ((j : ℕ) → j < i → ValueAt t z j → ⊥) → LinkTo t z i 0
link_none t z i n = record { within = omega arith; here = λ h. absurd (omega arith); past = λ j a b v. n j b v }

-- The value itself is the last before the next place.
link_here : (t : List ℕ) (z i : ℕ) → ValueAt t z i → LinkTo t z (i + 1) (i + 1)
link_here t z i v = record {
  within = omega arith;
  here = λ h. subst (ValueAt t z) (omega arith) v;
  past = λ j a b w. absurd (omega arith);
}

-- Places with no value of the property move no link.
link_on : {t : List ℕ} {z i k : ℕ} (end : ℕ) → i ≤ end → ((j : ℕ) → i ≤ j → j < end → ValueAt t z j → ⊥) → LinkTo t z i k
    → LinkTo t z end k
link_on {i = i} end h n L = record {
  within = omega (arith, L.within);
  here = L.here;
  past = λ j a b v. ⊎_elim (λ q. L.past j a q v) (λ q. n j q b v) (split j i);
}

pub linking_none : {t links : List ℕ} → Linkable t links → NoneLinked links → (i end v w : ℕ) → v ≡ word_of 10 0 0 0
    → w ≡ word_of 11 0 0 0 → Below t v i → Below t w end → Linking t links end i
linking_none {t} L Z i end v w p q B C = record {
  linkable = L;
  within = B.within;
  values = passed_none 10 Any i end v w p q B C;
  last = λ z. rw (Z z) (link_none t z i (early z));
  next = λ z j a u. absurd (early z j a u);
}
  where
    early : (z j : ℕ) → j < i → ValueAt t z j → ⊥
    early z j a (l, k, e) = omega (arith, B.before j a)

module _ {t links : List ℕ} {end i : ℕ} (L : Linking t links end i) where
  pub linking_place : i < end → i < length t
  linking_place h = omega (arith, L.values.within)

  pub linking_few : i < end → i < product.most
  linking_few h = omega (arith, linking_place h, L.linkable.few)

  pub third_id : i < end → Id (third_of (at t i))
  third_id h = (L.linkable.words.facts i (linking_place h)).allowed.third

  -- The property of the value has a link, and so has its place.
  pub latest_within : i < end → latest_at (third_of (at t i)) < length links
  latest_within h = omega (arith, L.linkable.places, third_id h)

  pub place_within : i < end → i < length links
  place_within h = omega (arith, L.linkable.places, linking_few h)

  pub linking_more : i < end → Linking t (set (set links i (at links (latest_at (third_of (at t i)))))
      (latest_at (third_of (at t i)))
      (i + 1)) end (i + 1)
  linking_more h = record {
    linkable = record {
      words = L.linkable.words;
      few = L.linkable.few;
      places = length-set own _ _ ∙ (length-set links _ _ ∙ L.linkable.places);
    };
    within = omega (arith, linking_place h);
    values = passed_more 10 Any i end L.values h tt;
    last = λ z. last z (property (latest_at z)) (value (latest_at z));
    next = λ z j a v. next z j a v (property j) (value j);
  }
    where
      c : ℕ
      c = third_of (at t i)

      own : List ℕ
      own = set links i (at links (latest_at c))

      value : (j : ℕ) → Stored links i (at links (latest_at c)) j
      value j = stored links i (at links (latest_at c)) j (place_within h)

      property : (j : ℕ) → Stored own (latest_at c) (i + 1) j
      property j = stored own (latest_at c) (i + 1) j
          (omega (arith, latest_within h, length-set links i (at links (latest_at c))))

      is_value_lem : ValueAt t c i
      is_value_lem = (linking_place h, L.values.left i (omega arith) h, refl)

      last : (z : ℕ) → Stored own (latest_at c) (i + 1) (latest_at z) → Stored links i (at links (latest_at c)) (latest_at z)
          → LinkTo t z (i + 1) (at (set own (latest_at c) (i + 1)) (latest_at z))
      last z (inl (e, f)) s = rw (f, same z e) (link_here t c i is_value_lem)
        where
          same : (z : ℕ) → latest_at z ≡ latest_at c → z ≡ c
          same z e = omega arith
      last z (inr (n, f)) (inl (q, g)) = absurd (omega (arith, linking_few h))
      last z (inr (n, f)) (inr (q, g)) = rw (f, g) (link_on (i + 1) (omega arith)
          (λ j a b (l, k, e). n (ap latest_at (sym e ∙ ap (λ (x : ℕ). third_of (at t x)) (omega arith)))) (L.last z))

      next : (z j : ℕ) → j < i + 1 → ValueAt t z j → Stored own (latest_at c) (i + 1) j
          → Stored links i (at links (latest_at c)) j
          → LinkTo t z j (at (set own (latest_at c) (i + 1)) j)
      next z j a v (inl (e, f)) s = absurd (omega (arith, linking_few h))
      next z j a (l, k, e) (inr (n, f)) (inl (q, g)) = rw (f, g, q) (subst (λ x. LinkTo t x i (at links (latest_at c)))
          (sym (ap (λ (x : ℕ). third_of (at t x)) q) ∙ e) (L.last c))
      next z j a v (inr (n, f)) (inr (q, g)) =
          rw (f, g) (L.next z j (⊎_elim (λ p. absurd (q p)) (λ p. p) (eq-or-lt_of_le (omega arith))) v)

  pub linking_end : end ≤ i → Linked t links
  linking_end h = record {
    linkable = L.linkable;
    last = λ z. link_on (length t) L.within (λ j a b (l, k, e). L.values.none j (omega arith) l k) (L.last z);
    next = λ z j v. ⊎_elim (λ q. L.next z j q v) (λ q. absurd (L.values.none j (omega arith) v.0 v.1)) (split j i);
  }
