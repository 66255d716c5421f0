-- Words of facts by their places and as a list: members, and the ascent of both. Assumes nothing.
use Prim.Native.Nat.{ℕ, zero, suc, ◌<◌}
use mathlib.Core.Path.{sym, subst}
use mathlib.Core.List.{List, [], ◌∷◌}
use native.Mathlib.Omega.{arith}
use lib.ListN.{length}
use Rattle.rdfs.specs.Lists.{◌∈◌, here, there, Ascending}
use Rattle.table.proofs.Filled.{at_in}
use Rattle.spans.specs.Spans.{at, Has}

-- Members stand at places.
pub in_has : {x : ℕ} {l : List ℕ} → x ∈ l → Has l x
in_has (here e) = (0, omega arith, sym e)
in_has (there h) = let (i, l, e) = in_has h in (suc i, omega arith, e)

pub has_in : {x : ℕ} {l : List ℕ} → Has l x → x ∈ l
has_in {l = l} (i, h, e) = subst (λ y. y ∈ l) e (at_in l i h)

-- Ascending by places, and as a list.
abbrev pub Rises : List ℕ → Type 0
Rises l = (i j : ℕ) → i < j → j < length l → at l i < at l j

pub ascending_rises : (l : List ℕ) → Ascending l → Rises l
ascending_rises [] a i j h b = absurd (omega arith)
ascending_rises (x ∷ l) a zero (suc j) h b = a.0 (at l j) (at_in l j (omega arith))
ascending_rises (x ∷ l) a (suc i) (suc j) h b = ascending_rises l a.1 i j (omega arith) (omega arith)
ascending_rises (x ∷ l) a zero zero h b = absurd (omega arith)
ascending_rises (x ∷ l) a (suc i) zero h b = absurd (omega arith)
