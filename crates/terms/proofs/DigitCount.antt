-- How many digits a number has. Assumes nothing.
use Prim.Native.Nat.{ℕ, zero, suc, ◌+◌, ◌/◌, ◌%◌, ◌≤◌, ◌<◌}
use mathlib.Core.Path.{◌≡◌, refl, ap, ◌∙◌}
use mathlib.Core.Bool.{Bool, true, false}
use mathlib.Core.List.{[], ◌∷◌}
use native.Mathlib.Omega.{arith}
use lib.Dec.{ltb}
use lib.ListN.{length, length-append}
use borrow.Author.Tests.{ltb-true, ltb-false}
use Rattle.terms.specs.Terms.{decimal}
use Rattle.terms.proofs.Decimal.{decimal_one, decimal_more}

pub count_one : (n : ℕ) → n < 10 → length (decimal n) ≡ 1
count_one n h = ap length (decimal_one n h)

pub count_more : (n : ℕ) → 10 ≤ n → length (decimal n) ≡ length (decimal (n / 10)) + 1
count_more n h = ap length (decimal_more n h) ∙ length-append (decimal (n / 10)) ((48 + n % 10) ∷ [])

-- No more digits than the number has units, and one.
count_within : (k n : ℕ) → n ≤ k → length (decimal n) ≤ n + 1
count_within zero n h = omega (arith, count_one n (omega arith))
count_within (suc k) n h = by (ltb n 10) refl (λ g. count_within k (n / 10) g)
  where
    by : (t : Bool) → ltb n 10 ≡ t → (n / 10 ≤ k → length (decimal (n / 10)) ≤ n / 10 + 1) → length (decimal n) ≤ n + 1
    by true e f = omega (arith, count_one n (ltb-true n 10 e))
    by false e f =
        let large : 10 ≤ n = ltb-false n 10 e in
        omega (arith, count_more n large, f (omega arith))

pub count_few : (n : ℕ) → length (decimal n) ≤ n + 1
count_few n = count_within n n (omega arith)

-- Three digits for an id.
two : (n : ℕ) → n < 100 → length (decimal n) ≤ 2
two n h = by (ltb n 10) refl
  where
    by : (t : Bool) → ltb n 10 ≡ t → length (decimal n) ≤ 2
    by true e = omega (arith, count_one n (ltb-true n 10 e))
    by false e =
        let large : 10 ≤ n = ltb-false n 10 e in
        omega (arith, count_more n large, count_one (n / 10) (omega arith))

pub count_three : (n : ℕ) → n < 1000 → length (decimal n) ≤ 3
count_three n h = by (ltb n 10) refl
  where
    by : (t : Bool) → ltb n 10 ≡ t → length (decimal n) ≤ 3
    by true e = omega (arith, count_one n (ltb-true n 10 e))
    by false e =
        let large : 10 ≤ n = ltb-false n 10 e in
        omega (arith, count_more n large, two (n / 10) (omega arith))

-- Some digits are counted, the others are those of `rest` but one.
pub record Counted (n rest count : ℕ) : Type 0 where
  pub some : count + length (decimal rest) ≡ length (decimal n) + 1
  pub fits : rest + count ≤ n + 1

pub counted_start : (n : ℕ) → Counted n n 1
counted_start n = record { some = omega arith; fits = omega arith }

pub counted_more : {n rest count : ℕ} → Counted n rest count → 10 ≤ rest → Counted n (rest / 10) (count + 1)
counted_more {rest = rest} d h = record { some = omega (arith, d.some, count_more rest h); fits = omega (arith, d.fits) }

pub counted_all : {n rest count : ℕ} → Counted n rest count → rest < 10 → count ≡ length (decimal n)
counted_all {rest = rest} d h = omega (arith, d.some, count_one rest h)
