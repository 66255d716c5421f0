-- Filters: what is left if all pass or none does, over two lists, of an ascending list; what passes and what fails. Assumes
-- nothing.
use Prim.Native.Nat.{ℕ, suc, ◌+◌}
use mathlib.Core.Path.{◌≡◌, refl, ap, ◌∙◌}
use mathlib.Core.Bool.{Bool, true, false, not, cond}
use mathlib.Core.List.{List, [], ◌∷◌, ◌++◌}
use native.Mathlib.Omega.{arith}
use lib.Dec.{T}
use lib.ListN.{length}
use Rattle.rdfs.specs.Lists.{◌∈◌, here, there, filter, Ascending}
use Rattle.rdfs.proofs.Lists.ListLaws.{in_filter}

module _ {A : Type 0} where
  pub cond_yes : (b : Bool) (x y : A) → T b → cond b x y ≡ x
  cond_yes true x y t = refl
  cond_yes false x y t = absurd t

  pub cond_no : (b : Bool) (x y : A) → (T b → ⊥) → cond b x y ≡ y
  cond_no true x y n = absurd (n tt)
  cond_no false x y n = refl

module _ {A : Type 0} (p : A → Bool) where
  pub filter_all : (l : List A) → ((x : A) → x ∈ l → T (p x)) → filter p l ≡ l
  filter_all [] h = refl
  filter_all (x ∷ l) h = cond_yes (p x) (x ∷ filter p l) (filter p l) (h x (here refl))
      ∙ ap (λ m. x ∷ m) (filter_all l (λ y k. h y (there k)))

  pub filter_none : (l : List A) → ((x : A) → x ∈ l → T (p x) → ⊥) → filter p l ≡ []
  filter_none [] h = refl
  filter_none (x ∷ l) h = cond_no (p x) (x ∷ filter p l) (filter p l) (h x (here refl)) ∙ filter_none l (λ y k. h y (there k))

  pub filter_append : (l m : List A) → filter p (l ++ m) ≡ filter p l ++ filter p m
  filter_append [] m = refl
  filter_append (x ∷ l) m = step (p x) (filter_append l m)
    where
      step : (b : Bool) → filter p (l ++ m) ≡ filter p l ++ filter p m → cond b (x ∷ filter p (l ++ m)) (filter p (l ++ m))
          ≡ cond b (x ∷ filter p l) (filter p l) ++ filter p m
      step true e = ap (λ r. x ∷ r) e
      step false e = e

  -- What passes and what fails, together, are all.
  pub filter_split : (l : List A) → length (filter p l) + length (filter (λ x. not (p x)) l) ≡ length l
  filter_split [] = refl
  filter_split (x ∷ l) = step (p x) (filter_split l)
    where
      step : (b : Bool) → length (filter p l) + length (filter (λ x. not (p x)) l) ≡ length l
          → length (cond b (x ∷ filter p l) (filter p l)) + length (cond (not b) (x ∷ filter (λ y. not (p y)) l)
          (filter (λ y. not (p y)) l)) ≡ suc (length l)
      step true e = omega (arith, e)
      step false e = omega (arith, e)

pub filter_ascending : (p : ℕ → Bool) (l : List ℕ) → Ascending l → Ascending (filter p l)
filter_ascending p [] a = tt
filter_ascending p (x ∷ l) a = step (p x) (filter_ascending p l a.1)
  where
    step : (b : Bool) → Ascending (filter p l) → Ascending (cond b (x ∷ filter p l) (filter p l))
    step true r = ((λ y h. a.0 y (in_filter p l h).0), r)
    step false r = r
