-- Zeros taken and dropped. Assumes nothing.
use Prim.Native.Nat.{ℕ, zero, suc, ◌-◌, ◌≤◌}
use mathlib.Core.Path.{◌≡◌, refl, sym, ap, ◌∙◌}
use mathlib.Core.List.{◌∷◌}
use native.Mathlib.Omega.{arith}
use native.Mathlib.Nat.{sub-zero, suc-sub-suc}
use lib.ListN.{take, drop, replicate}

pub drop_zeros : (m n : ℕ) → drop n (replicate m 0) ≡ replicate {A = ℕ} (m - n) 0
drop_zeros m zero = ap (λ k. replicate k 0) (sym (sub-zero m))
drop_zeros zero (suc n) = let none : 0 - suc n ≡ 0 = omega arith in ap (λ k. replicate k 0) (sym none)
drop_zeros (suc m) (suc n) = drop_zeros m n ∙ ap (λ k. replicate k 0) (sym (suc-sub-suc m n))

pub take_zeros : (m n : ℕ) → n ≤ m → take n (replicate m 0) ≡ replicate {A = ℕ} n 0
take_zeros m zero h = refl
take_zeros zero (suc n) h = absurd (omega arith)
take_zeros (suc m) (suc n) h = ap (λ l. 0 ∷ l) (take_zeros m n (omega arith))
