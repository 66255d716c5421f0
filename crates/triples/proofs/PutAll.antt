-- Words put into an ascending list one after another. Assumes nothing.
use Prim.Native.Nat.{ℕ, ◌≤◌}
use mathlib.Core.Path.{◌≡◌, refl, sym, subst}
use mathlib.Core.Logic.{◌⊎◌, inl, inr, ⊎_elim}
use mathlib.Core.List.{List, [], ◌∷◌, ◌++◌}
use lib.ListN.{length}
use Rattle.rdfs.specs.Lists.{◌∈◌, here, there, Ascending}
use Rattle.rdfs.specs.Words.{put, sort}
use Rattle.rdfs.proofs.Lists.ListLaws.{in_cons, none_in}
use Rattle.rdfs.proofs.Lists.Sorted.{
  ascending_equal,
  in_put,
  put_has,
  put_keeps,
  put_ascending,
  in_sort,
  sort_has,
  sort_ascending,
  sub_length,
}
use Rattle.triples.specs.Storing.{put_all}

-- A number that is there is put in for nothing.
pub put_there : (x : ℕ) (l : List ℕ) → Ascending l → x ∈ l → put x l ≡ l
put_there x l a h = ascending_equal (put x l) l (put_ascending x l a) a
    (λ z k. ⊎_elim (λ e. subst (λ y. y ∈ l) (sym e) h) (λ m. m) (in_put x l z k)) (put_keeps x l)

in_put_all : (new l : List ℕ) (z : ℕ) → z ∈ put_all new l → (z ∈ new) ⊎ (z ∈ l)
in_put_all [] l z h = inr h
in_put_all (x ∷ new) l z h = ⊎_elim (λ k. inl (there k)) (λ k. ⊎_elim (λ e. inl (here e)) inr (in_put x l z k))
    (in_put_all new (put x l) z h)

put_all_keeps : (new l : List ℕ) (z : ℕ) → z ∈ l → z ∈ put_all new l
put_all_keeps [] l z h = h
put_all_keeps (x ∷ new) l z h = put_all_keeps new (put x l) z (put_keeps x l z h)

put_all_has : (new l : List ℕ) (z : ℕ) → z ∈ new → z ∈ put_all new l
put_all_has [] l z h = absurd (none_in h)
put_all_has (x ∷ new) l z h =
    ⊎_elim (λ e. put_all_keeps new (put x l) z (subst (λ y. y ∈ put x l) (sym e) (put_has x l))) (put_all_has new (put x l) z)
    (in_cons h)

put_all_ascending : (new l : List ℕ) → Ascending l → Ascending (put_all new l)
put_all_ascending [] l a = a
put_all_ascending (x ∷ new) l a = put_all_ascending new (put x l) (put_ascending x l a)

-- In two steps.
pub put_all_append : (new more l : List ℕ) → put_all (new ++ more) l ≡ put_all more (put_all new l)
put_all_append [] more l = refl
put_all_append (x ∷ new) more l = put_all_append new more (put x l)

-- The list grows.
pub put_all_longer : (new more l : List ℕ) → Ascending l → length (put_all new l) ≤ length (put_all more (put_all new l))
put_all_longer new more l a =
    let first : Ascending (put_all new l) = put_all_ascending new l a in
    sub_length (put_all more (put_all new l)) (put_all new l) (put_all_ascending more (put_all new l) first) first
    (put_all_keeps more (put_all new l))

-- Put into none, they are sorted: by the members only.
pub put_all_sorts : (new l : List ℕ) → ((z : ℕ) → z ∈ new → z ∈ l) → ((z : ℕ) → z ∈ l → z ∈ new) → put_all new [] ≡ sort l
put_all_sorts new l to from = ascending_equal (put_all new []) (sort l) (put_all_ascending new [] tt) (sort_ascending l)
    (λ z h. sort_has l z (to z (⊎_elim (λ k. k) (λ k. absurd (none_in k)) (in_put_all new [] z h))))
    (λ z h. put_all_has new [] z (from z (in_sort l z h)))
