-- Bytes at the start of others. Assumes nothing.
use Prim.Native.Nat.{ℕ, ◌+◌}
use mathlib.Core.Path.{◌≡◌, subst}
use mathlib.Core.Bool.{Bool, true, not, ◌&&◌}
use mathlib.Core.List.{List, [], ◌∷◌, ◌++◌, head-eq_of_cons-eq, tail-eq_of_cons-eq}
use lib.Dec.{T, eqb, T_not, eqb_refl}
use lib.ListN.{length, take, drop}
use Rattle.std.proofs.Common.{Bor, Some}
use Rattle.std.specs.Cmp.Lexicographic.{pointwise}
use Rattle.std.proofs.lemmas.Slice.Eq.{strip_prefix_is}
use Rattle.std.proofs.lemmas.Bool.Decides.{Decides-eqb}
use Rattle.rdfs.proofs.Lists.Tests.{both_and}

-- Whether two pieces agree as far as both go: a test that computes.
abbrev pub agree : List ℕ → List ℕ → Bool
agree [] m = true
agree (x ∷ l) [] = true
agree (x ∷ l) (y ∷ m) = eqb x y && agree l m

pub agrees : (l m r s : List ℕ) → l ++ r ≡ m ++ s → T (agree l m)
agrees [] m r s e = tt
agrees (x ∷ l) [] r s e = tt
agrees (x ∷ l) (y ∷ m) r s e = both_and (eqb x y) (agree l m) (subst (λ z. T (eqb x z)) (head-eq_of_cons-eq e) (eqb_refl x))
    (agrees l m r s (tail-eq_of_cons-eq e))

pub apart : (l m r s : List ℕ) → T (not (agree l m)) → l ++ r ≡ m ++ s → ⊥
apart l m r s t e = T_not (agree l m) t (agrees l m r s e)

-- What `strip_prefix` answers of a prefix that is there: the bytes behind it.
pub stripped : (s p : List ℕ) (x : Bor (List ℕ)) → (pointwise eqb (take (length p) s) p ≡ true)
    × (x.now ≡ drop (length p) s) × (length x.now + length p ≡ length s) → s ≡ p ++ x.now
stripped s p x h = strip_prefix_is Decides-eqb s p (Some x) h
