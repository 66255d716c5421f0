-- The test whether two lists of numbers are the same is exact. Assumes nothing.
use Prim.Native.Nat.{ℕ}
use mathlib.Core.Path.{◌≡◌, refl}
use mathlib.Core.List.{List, [], ◌∷◌}
use lib.Dec.{T, eqb, eqb→eq, eqb_refl}
use Rattle.rdfs.specs.Lists.{same_list}
use Rattle.rdfs.proofs.Lists.Tests.{and_both, both_and}

pub same_list_eq : (l m : List ℕ) → T (same_list l m) → l ≡ m
same_list_eq [] [] t = refl
same_list_eq [] (y ∷ m) t = absurd t
same_list_eq (x ∷ l) [] t = absurd t
same_list_eq (x ∷ l) (y ∷ m) t =
    let h = and_both (eqb x y) (same_list l m) t in
    rw (eqb→eq x y h.0, same_list_eq l m h.1)

pub same_list_refl : (l : List ℕ) → T (same_list l l)
same_list_refl [] = tt
same_list_refl (x ∷ l) = both_and (eqb x x) (same_list l l) (eqb_refl x) (same_list_refl l)
