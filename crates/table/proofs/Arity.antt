-- Which numbers are kinds, how many ids a kind has, and what is shaped. Assumes nothing.
use Prim.Native.Nat.{ℕ, zero, suc, ◌+◌, ◌≤◌, ◌<◌}
use mathlib.Core.Path.{◌≡◌, refl, ap, subst}
use mathlib.Core.Bool.{Bool, true, ◌&&◌}
use mathlib.Core.Logic.{⊎_elim}
use mathlib.Core.List.{List, [], ◌∷◌}
use native.Mathlib.Omega.{arith}
use native.Mathlib.Nat.{eq-or-lt_of_le}
use native.Mathlib.Decide.{dec_lt}
use lib.Dec.{T, leb, leb→le}
use lib.ListN.{length, get_or}
use Rattle.rdfs.specs.Numbers.{arities, kind_count, arity}
use Rattle.rdfs.proofs.Lists.Tests.{and_both}
use Rattle.table.specs.Parts.{Digits, Shaped}
use Rattle.table.specs.Counted.{Id}

-- A number of a list that is not 0 stands at a place of it.
some_within : (l : List ℕ) (i : ℕ) → 1 ≤ get_or l i 0 → i < length l
some_within [] i h = absurd (omega arith)
some_within (x ∷ l) zero h = omega arith
some_within (x ∷ l) (suc i) h = omega (arith, some_within l i h)

-- A number that has an arity is a kind.
pub kind_some : (k : ℕ) → 1 ≤ arity k → 1 ≤ k
kind_some zero h = absurd (omega arith)
kind_some (suc k) h = omega arith

pub kind_within : (k : ℕ) → 1 ≤ arity k → k ≤ kind_count
kind_within k h = omega (arith, some_within (0 ∷ arities) k h)

-- What holds of each kind.
pub each_kind {ℓ} : (P : ℕ → Type ℓ) → P 1 → P 2 → P 3 → P 4 → P 5 → P 6 → P 7 → P 8 → P 9 → P 10 → P 11 → (k : ℕ) → 1 ≤ arity k
    → P k
each_kind P a b c d e f g h i j m zero s = absurd (omega arith)
each_kind P a b c d e f g h i j m (suc zero) s = a
each_kind P a b c d e f g h i j m (suc (suc zero)) s = b
each_kind P a b c d e f g h i j m (suc (suc (suc zero))) s = c
each_kind P a b c d e f g h i j m (suc (suc (suc (suc zero)))) s = d
each_kind P a b c d e f g h i j m (suc (suc (suc (suc (suc zero))))) s = e
each_kind P a b c d e f g h i j m (suc (suc (suc (suc (suc (suc zero)))))) s = f
each_kind P a b c d e f g h i j m (suc (suc (suc (suc (suc (suc (suc zero))))))) s = g
each_kind P a b c d e f g h i j m (suc (suc (suc (suc (suc (suc (suc (suc zero)))))))) s = h
each_kind P a b c d e f g h i j m (suc (suc (suc (suc (suc (suc (suc (suc (suc zero))))))))) s = i
each_kind P a b c d e f g h i j m (suc (suc (suc (suc (suc (suc (suc (suc (suc (suc zero)))))))))) s = j
each_kind P a b c d e f g h i j m (suc (suc (suc (suc (suc (suc (suc (suc (suc (suc (suc zero))))))))))) s = m
each_kind P a b c d e f g h i j m (suc (suc (suc (suc (suc (suc (suc (suc (suc (suc (suc (suc k)))))))))))) s = absurd
    (omega arith)

-- A test of the arities of n kinds, from kind i on, says what holds of each: it is computed.
abbrev pub tested : (ℕ → Bool) → ℕ → ℕ → Bool
tested test i zero = true
tested test i (suc n) = test (arity i) && tested test (suc i) n

pub arity_tested : (test : ℕ → Bool) (i n k : ℕ) → T (tested test i n) → i ≤ k → k < i + n → T (test (arity k))
arity_tested test i zero k t h l = absurd (omega arith)
arity_tested test i (suc n) k t h l =
    let both = and_both (test (arity i)) (tested test (suc i) n) t in
    ⊎_elim (λ e. subst (λ x. T (test (arity x))) e both.0)
    (λ m. arity_tested test (suc i) n k both.1 m (omega arith)) (eq-or-lt_of_le h)

-- The kinds below m have at most n ids.
pub arity_below : (n m k : ℕ) → T (tested (λ x. leb x n) 0 m) → k < m → arity k ≤ n
arity_below n m k t h = leb→le (arity k) n (arity_tested (λ x. leb x n) 0 m k t (omega arith) (omega arith))

-- A kind has at most three ids.
pub arity_few : (k : ℕ) → arity k ≤ 3
arity_few k = elim (dec_lt 0 (arity k)) [
  | yes h ↦ arity_below 3 (suc kind_count) k tt (omega (arith, kind_within k h))
  | no h ↦ omega (arith, h)
]

-- Ids that a kind does not use are 0.
pub one_id : (k : ℕ) → arity k ≡ 1 → Shaped k 0 0
one_id k e = record { some = omega (arith, e); second = λ _. refl; third = λ _. refl }

pub two_ids : (k b : ℕ) → arity k ≡ 2 → Shaped k b 0
two_ids k b e = record { some = omega (arith, e); second = λ h. absurd (omega (arith, e)); third = λ _. refl }

pub three_ids : (k b c : ℕ) → arity k ≡ 3 → Shaped k b c
three_ids k b c e = record {
  some = omega (arith, e);
  second = λ h. absurd (omega (arith, e));
  third = λ h. absurd (omega (arith, e));
}

-- A shaped kind is one.
module _ {k b c : ℕ} (s : Shaped k b c) where
  pub shaped_some : 1 ≤ k
  shaped_some = kind_some k s.some

  pub shaped_within : k ≤ kind_count
  shaped_within = kind_within k s.some

  -- With ids it makes a word.
  pub shaped_digits : {a : ℕ} → Id a → Id b → Id c → Digits k a b c
  shaped_digits p q r = record {
    kind = omega (arith, shaped_within);
    first = omega (arith, p);
    second = omega (arith, q);
    third = omega (arith, r);
  }

  -- What it does not use, by an equal kind.
  pub shaped_second : (l : ℕ) → k ≡ l → arity l ≤ 1 → b ≡ 0
  shaped_second l e h = s.second (omega (arith, h, ap arity e))

  pub shaped_third : (l : ℕ) → k ≡ l → arity l ≤ 2 → c ≡ 0
  shaped_third l e h = s.third (omega (arith, h, ap arity e))
