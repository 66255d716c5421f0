-- Rearranged tickets: each is among the others, and they are as many. Assumes nothing.
use Prim.Native.Nat.{ℕ, ◌+◌, ◌<◌}
use mathlib.Core.Path.{◌≡◌, refl, sym, ap, subst}
use mathlib.Core.Bool.{Bool, true, false, cond}
use mathlib.Core.List.{List, [], ◌∷◌, ◌++◌}
use native.Mathlib.Omega.{arith}
use lib.Dec.{T}
use lib.ListN.{length, length-append}
use Rattle.rdfs.specs.Lists.{◌∈◌, here, there, ◌⊆◌, count, same_list}
use Rattle.rdfs.specs.Orders.{SameTickets}
use Rattle.rdfs.proofs.Lists.SameList.{same_list_eq, same_list_refl}
use Rattle.rdfs.proofs.Lists.ListLaws.{none_in}
use Rattle.rdfs.proofs.Lists.Filters.{cond_yes}

module _ {A : Type 0} (p : A → Bool) where
  pub count_some : {x : A} {l : List A} → x ∈ l → T (p x) → 0 < count p l
  count_some (here {y = y} e) t = omega (arith, cond_yes {A = ℕ} (p y) 1 0 (subst (λ z. T (p z)) e t))
  count_some (there h) t = omega (arith, count_some h t)

  pub some_count : (l : List A) → 0 < count p l → (x : A) × (x ∈ l) × T (p x)
  some_count [] h = absurd (omega arith)
  some_count (y ∷ l) h = step (p y) refl (some_count l) h
    where
      step : (b : Bool) → p y ≡ b → (0 < count p l → (x : A) × (x ∈ l) × T (p x)) → 0 < cond b 1 0 + count p l → (x : A)
          × (x ∈ (y ∷ l)) × T (p x)
      step true e r k = (y, here refl, subst T (sym e) tt)
      step false e r k = let q = r (omega arith) in (q.0, there q.1, q.2)

  pub count_append : (l m : List A) → count p (l ++ m) ≡ count p l + count p m
  count_append [] m = omega arith
  count_append (x ∷ l) m = omega (arith, count_append l m)

in_split : {A : Type 0} {x : A} {l : List A} → x ∈ l → (a : List A) × (b : List A) × (l ≡ a ++ (x ∷ b))
in_split (here {l = l} e) = ([], l, ap (λ y. y ∷ l) (sym e))
in_split (there {y = y} h) = let r = in_split h in (y ∷ r.0, r.1, ap (λ m. y ∷ m) r.2)

pub same_tickets_sym : (l m : List (List ℕ)) → SameTickets l m → SameTickets m l
same_tickets_sym l m s t = sym (s t)

pub same_tickets_in : (l m : List (List ℕ)) → SameTickets l m → l ⊆ m
same_tickets_in l m s t h =
    let r = some_count (same_list t) m (subst (λ k. 0 < k) (s t) (count_some (same_list t) h (same_list_refl t))) in
    subst (λ u. u ∈ m) (sym (same_list_eq t r.0 r.2)) r.1

pub same_tickets_length : (l m : List (List ℕ)) → SameTickets l m → length l ≡ length m
same_tickets_length [] [] s = refl
same_tickets_length [] (u ∷ m) s = absurd (none_in (same_tickets_in (u ∷ m) [] (same_tickets_sym [] (u ∷ m) s) u (here refl)))
same_tickets_length (t ∷ l) m s =
    let r = in_split (same_tickets_in (t ∷ l) m s t (here refl)) in
    let before = r.0 in
    let after = r.1 in
    let rest : SameTickets l (before ++ after) =
    λ u. omega (
      arith,
      s u,
      ap (count (same_list u)) r.2,
      count_append (same_list u) before (t ∷ after),
      count_append (same_list u) before after,
    ) in
    omega (
      arith,
      same_tickets_length l (before ++ after) rest,
      ap length r.2,
      length-append before (t ∷ after),
      length-append before after,
    )
