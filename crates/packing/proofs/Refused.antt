-- A refusal among those of a call, packed into its number. Assumes nothing.
use Prim.Native.Nat.{ℕ}
use mathlib.Core.Path.{◌≡◌, ap}
use mathlib.Core.Bool.{cond}
use borrow.Author.Tests.{eq-eqb, ne_eqb}
use Rattle.packing.specs.Packed.{packed, refused_else}

-- A refusal is the answer, and for 0 what comes after.
pub refused_is : (n rest : ℕ) → (n ≡ 0 → ⊥) → refused_else n rest ≡ packed n 0 0 0
refused_is n rest h = ap (λ b. cond b rest (packed n 0 0 0)) (ne_eqb n 0 h)

pub passed_is : (n rest : ℕ) → n ≡ 0 → refused_else n rest ≡ rest
passed_is n rest e = ap (λ b. cond b rest (packed n 0 0 0)) (eq-eqb n 0 e)
