-- Refusals 1 and 2, case by case. Assumes nothing.
use Prim.Native.Nat.{ℕ}
use mathlib.Core.Path.{◌≡◌, refl, ap, ◌∙◌}
use mathlib.Core.Bool.{Bool, true, false, not}
use mathlib.Core.List.{List}
use native.Mathlib.Omega.{arith}
use lib.Dec.{T}
use Rattle.rdfs.specs.Numbers.{product}
use Rattle.rdfs.specs.Words.{laid_out}
use Rattle.rdfs.specs.Refusals.{or_else, bad_size, layout_refusal}

-- Refusals 1 and 2 by the tests of a table's size and layout.
abbrev pub refusal : Bool → Bool → ℕ
refusal bad laid = or_else bad 1 (or_else (not laid) 2 0)

refusal_laid : (bad laid : Bool) → refusal bad laid ≡ 0 → T laid
refusal_laid true laid e = absurd (omega arith)
refusal_laid false true e = tt
refusal_laid false false e = absurd (omega arith)

module _ (t : List ℕ) where
  refusal_is : (bad laid : Bool) → bad_size product t ≡ bad → laid_out product 1 t ≡ laid → layout_refusal product t 0 ≡ refusal bad
      laid
  refusal_is bad laid p q = ap (λ b. refusal b (laid_out product 1 t)) p ∙ ap (refusal bad) q

  pub answer_size : bad_size product t ≡ true → layout_refusal product t 0 ≡ 1
  answer_size p = refusal_is true (laid_out product 1 t) p refl

  pub answer_layout : bad_size product t ≡ false → laid_out product 1 t ≡ false → layout_refusal product t 0 ≡ 2
  answer_layout p q = refusal_is false false p q

  pub answer_none : bad_size product t ≡ false → laid_out product 1 t ≡ true → layout_refusal product t 0 ≡ 0
  answer_none p q = refusal_is false true p q

  -- A table that is not refused is laid out.
  pub taken_laid : layout_refusal product t 0 ≡ 0 → T (laid_out product 1 t)
  taken_laid e = refusal_laid (bad_size product t) (laid_out product 1 t) e
