-- Ascending lists: two with the same members are equal; `sort` makes one. Assumes nothing.
use Prim.Native.Nat.{ℕ, suc, ◌+◌, ◌≤◌, ◌<◌}
use mathlib.Core.Path.{◌≡◌, refl, sym, ap, subst, ◌∙◌}
use mathlib.Core.Bool.{Bool, true, false, cond}
use mathlib.Core.Logic.{◌⊎◌, inl, inr, ⊎_elim}
use mathlib.Core.List.{List, [], ◌∷◌}
use native.Mathlib.Omega.{arith}
use native.Mathlib.Decide.{ℕ_discrete}
use lib.Dec.{eqb, ltb}
use lib.ListN.{length}
use borrow.Author.Tests.{ltb-true, ltb-false, eqb-true, eqb-false}
use Rattle.rdfs.specs.Lists.{◌∈◌, here, there, ◌⊆◌, Ascending}
use Rattle.rdfs.specs.Words.{put, sort}
use Rattle.rdfs.proofs.Lists.ListLaws.{in_cons, none_in}

-- Two ascending lists with the same members are equal.
pub ascending_equal : (l m : List ℕ) → Ascending l → Ascending m → l ⊆ m → m ⊆ l → l ≡ m
ascending_equal [] [] p q f g = refl
ascending_equal [] (y ∷ m) p q f g = absurd (none_in (g y (here refl)))
ascending_equal (x ∷ l) [] p q f g = absurd (none_in (f x (here refl)))
ascending_equal (x ∷ l) (y ∷ m) p q f g =
    let e : x ≡ y = heads (in_cons (f x (here refl))) (in_cons (g y (here refl))) in
    rw (
      e,
      ascending_equal l m p.1 q.1 (λ z h. tail_of z h (in_cons (f z (there h))))
          (λ z h. tail_of' z h (in_cons (g z (there h)))),
    )
  where
    heads : (x ≡ y) ⊎ (x ∈ m) → (y ≡ x) ⊎ (y ∈ l) → x ≡ y
    heads (inl e) k = e
    heads (inr h) (inl e) = sym e
    heads (inr h) (inr k) = absurd (omega (arith, p.0 y k, q.0 x h))

    tail_of : (z : ℕ) → z ∈ l → (z ≡ y) ⊎ (z ∈ m) → z ∈ m
    tail_of z h (inl e) = absurd (omega (arith, p.0 z h, e, heads (in_cons (f x (here refl))) (in_cons (g y (here refl)))))
    tail_of z h (inr k) = k

    tail_of' : (z : ℕ) → z ∈ m → (z ≡ x) ⊎ (z ∈ l) → z ∈ l
    tail_of' z h (inl e) = absurd (omega (arith, q.0 z h, e, heads (in_cons (f x (here refl))) (in_cons (g y (here refl)))))
    tail_of' z h (inr k) = k

-- `put` by cases
put_case : (P : List ℕ → Type 0) (x y : ℕ) (l : List ℕ) → (x < y → P (x ∷ y ∷ l)) → (x ≡ y → P (y ∷ l))
    → (y < x → P (y ∷ put x l)) → P (put x (y ∷ l))
put_case P x y l a b c = go (ltb x y) refl
  where
    last : (t : Bool) → eqb x y ≡ t → ltb x y ≡ false → P (cond t (y ∷ l) (y ∷ put x l))
    last true e f = b (eqb-true x y e)
    last false e f = c (omega (arith, ltb-false x y f, eqb-false x y e))

    go : (t : Bool) → ltb x y ≡ t → P (cond t (x ∷ y ∷ l) (cond (eqb x y) (y ∷ l) (y ∷ put x l)))
    go true e = a (ltb-true x y e)
    go false e = last (eqb x y) refl e

pub in_put : (x : ℕ) (l : List ℕ) (z : ℕ) → z ∈ put x l → (z ≡ x) ⊎ (z ∈ l)
in_put x [] z h = in_cons h
in_put x (y ∷ l) z h₀ = put_case (λ r. z ∈ r → (z ≡ x) ⊎ (z ∈ (y ∷ l))) x y l
    (λ _ h. in_cons h)
    (λ _ h. inr h)
    (λ _ h. ⊎_elim (λ e. inr (here e)) (λ k. ⊎_elim (λ e. inl e) (λ m. inr (there m)) (in_put x l z k)) (in_cons h)) h₀

pub put_has : (x : ℕ) (l : List ℕ) → x ∈ put x l
put_has x [] = here refl
put_has x (y ∷ l) = put_case (λ r. x ∈ r) x y l (λ _. here refl) (λ e. here e) (λ _. there (put_has x l))

pub put_keeps : (x : ℕ) (l : List ℕ) (z : ℕ) → z ∈ l → z ∈ put x l
put_keeps x [] z h = absurd (none_in h)
put_keeps x (y ∷ l) z h =
    put_case (λ r. z ∈ r) x y l (λ _. there h) (λ _. h) (λ _. ⊎_elim (λ e. here e) (λ k. there (put_keeps x l z k)) (in_cons h))

pub put_ascending : (x : ℕ) (l : List ℕ) → Ascending l → Ascending (put x l)
put_ascending x [] a = ((λ y h. absurd (none_in h)), tt)
put_ascending x (y ∷ l) a = put_case Ascending x y l
    (λ lt. ((λ z h. ⊎_elim (λ e. omega arith) (λ k. omega (arith, a.0 z k)) (in_cons h)), a))
    (λ _. a)
    (λ lt. ((λ z h. ⊎_elim (λ e. omega arith) (a.0 z) (in_put x l z h)), put_ascending x l a.1))

pub put_longer : (x : ℕ) (l : List ℕ) → (x ∈ l → ⊥) → length (put x l) ≡ suc (length l)
put_longer x [] n = refl
put_longer x (y ∷ l) n = put_case (λ r. length r ≡ suc (suc (length l))) x y l (λ _. refl) (λ e. absurd (n (here e)))
    (λ _. ap suc (put_longer x l (λ h. n (there h))))

pub in_sort : (l : List ℕ) (z : ℕ) → z ∈ sort l → z ∈ l
in_sort [] z h = h
in_sort (x ∷ l) z h = ⊎_elim (λ e. here e) (λ k. there (in_sort l z k)) (in_put x (sort l) z h)

pub sort_has : (l : List ℕ) (z : ℕ) → z ∈ l → z ∈ sort l
sort_has [] z h = h
sort_has (x ∷ l) z h = ⊎_elim (λ e. subst (λ w. w ∈ put x (sort l)) (sym e) (put_has x (sort l))) (λ k. put_keeps x (sort l) z
    (sort_has l z k)) (in_cons h)

pub sort_ascending : (l : List ℕ) → Ascending (sort l)
sort_ascending [] = tt
sort_ascending (x ∷ l) = put_ascending x (sort l) (sort_ascending l)

-- An ascending list of numbers from lo up to hi is no longer than hi - lo.
pub ascending_length : (l : List ℕ) (lo hi : ℕ) → Ascending l → ((y : ℕ) → y ∈ l → (lo ≤ y) × (y < hi)) → lo ≤ hi
    → length l + lo ≤ hi
ascending_length [] lo hi a h le = omega arith
ascending_length (x ∷ l) lo hi a h le =
    let b = h x (here refl) in
    let r = ascending_length l (suc x) hi a.1 (λ y k. (a.0 y k, (h y (there k)).1)) b.1 in
    omega (arith, r, b.0)

-- A sublist of an ascending list is no longer.
pub sub_length : (m l : List ℕ) → Ascending m → Ascending l → l ⊆ m → length l ≤ length m
sub_length [] [] a b s = omega arith
sub_length [] (x ∷ l) a b s = absurd (none_in (s x (here refl)))
sub_length (y ∷ m) [] a b s = omega arith
sub_length (y ∷ m) (x ∷ l) a b s = elim (ℕ_discrete x y) [
  | yes e ↦ omega (
    arith,
    sub_length m l a.1 b.1 (λ z h. ⊎_elim (λ q. absurd (omega (arith, b.0 z h, q, e))) (λ k. k)
        (in_cons (s z (there h)))),
  )
  | no n ↦ omega (
    arith,
    sub_length m (x ∷ l) a.1 b (λ z h.
        ⊎_elim (λ q. absurd (⊎_elim (λ o. n (sym o ∙ q)) (λ k. omega (
          arith,
          b.0 z k,
          q,
          a.0 x (⊎_elim (λ o. absurd (n o)) (λ u. u) (in_cons (s x (here refl)))),
        )) (in_cons h))) (λ k. k) (in_cons (s z h))),
  )
]
