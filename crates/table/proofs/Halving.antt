-- A number that is sought by halving: after each test it is known to be in half the room. Assumes nothing.
use Prim.Native.Nat.{ℕ, zero, suc, ◌+◌, ◌-◌, ◌*◌, ◌/◌, ◌≤◌, ◌<◌}
use mathlib.Core.Path.{◌≡◌, refl, ap, ◌∙◌}
use mathlib.Core.Bool.{Bool, true, false, cond}
use mathlib.Core.Logic.{inl, inr}
use mathlib.Core.List.{List}
use native.Mathlib.Omega.{arith}
use native.Mathlib.Nat.{mul-zero, mul-one}
use lib.Dec.{ltb}
use lib.ListN.{length, get_or}
use borrow.Author.Tests.{ltb-true, ltb-false}
use Rattle.table.specs.Turning.{Turns, TurnsAt}

-- The test by whether x is below w.
pub turns : (number k x w r : ℕ) → (x < w → k < number) → (w ≤ x → number ≤ k) → r ≡ cond (ltb x w) 1 0 → Turns number k r
turns number k x w r up down e = by (ltb x w) refl e
  where
    by : (b : Bool) → ltb x w ≡ b → r ≡ cond b 1 0 → Turns number k r
    by true p e = inl (e, up (ltb-true x w p))
    by false p e = inr (e, down (ltb-false x w p))

-- Half a place more, or none.
pub half_moved : (half r : ℕ) → r ≤ 1 → half * r ≤ half
half_moved half zero h = omega (arith, mul-zero half)
half_moved half (suc r) h = let one : suc r ≡ 1 = omega arith in omega (arith, ap (λ i. half * i) one ∙ mul-one half)

-- The number at which the answers turn is from `low` to `low + size`, and each place looked at has a word.
pub record Halved (Answers : ℕ → ℕ → Type 0) (words : List ℕ) (low size : ℕ) : Type 0 where
  pub some : 0 < size
  pub within : low + size ≤ length words
  pub between : (number : ℕ) → number ≤ length words → TurnsAt Answers words number → (low ≤ number) × (number ≤ low + size)

pub halved_start : (Answers : ℕ → ℕ → Type 0) (words : List ℕ) → 0 < length words → Halved Answers words 0 (length words)
halved_start Answers words h = record { some = h; within = omega arith; between = λ number l t. (omega arith, omega arith) }

module _ {Answers : ℕ → ℕ → Type 0} {words : List ℕ} {low size : ℕ} (H : Halved Answers words low size) (r : ℕ) where
  pub halved_half : (half : ℕ) → half ≡ size / 2 → 1 < size → r ≤ 1 → Answers (get_or words (low + half) 0) r
      → Halved Answers words (low + half * r) (size - half)
  halved_half half e h bit p = record {
    some = omega arith;
    within = omega (arith, half_moved half r bit, H.within);
    between = λ number l t. side number (H.between number l t) (t (low + half) r (omega (arith, H.within)) p);
  }
    where
      side : (number : ℕ) → (low ≤ number) × (number ≤ low + size) → Turns number (low + half) r
          → (low + half * r ≤ number) × (number ≤ low + half * r + (size - half))
      side number b (inl t) =
          let all : half * r ≡ half = ap (λ i. half * i) t.0 ∙ mul-one half in
          (omega (arith, all, t.1), omega (arith, all, b.1))
      side number b (inr t) =
          let none : half * r ≡ 0 = ap (λ i. half * i) t.0 ∙ mul-zero half in
          (omega (arith, none, b.0), omega (arith, none, t.1))

  pub halved_last : size ≤ 1 → Answers (get_or words low 0) r → (number : ℕ) → number ≤ length words
      → TurnsAt Answers words number → low + r ≡ number
  halved_last h p number l t = side (H.between number l t) (t low r (omega (arith, H.some, H.within)) p)
    where
      side : (low ≤ number) × (number ≤ low + size) → Turns number low r → low + r ≡ number
      side b (inl q) = omega (arith, q.0, q.1, b.1)
      side b (inr q) = omega (arith, q.0, q.1, b.0)
