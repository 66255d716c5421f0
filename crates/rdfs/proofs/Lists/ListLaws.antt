-- Laws of lists: members of what the list functions make. Assumes nothing.
use mathlib.Core.Path.{◌≡◌, refl, sym, ap, subst}
use mathlib.Core.Bool.{Bool, true, false, cond}
use mathlib.Core.Logic.{◌⊎◌, inl, inr, ⊎_elim}
use mathlib.Core.List.{List, [], ◌∷◌, ◌++◌, map}
use lib.Dec.{T}
use Rattle.rdfs.specs.Lists.{◌∈◌, here, there, filter, concat_map, all, any}
use Rattle.rdfs.proofs.Lists.Tests.{and_both, both_and, either_or, or_either}

module _ {A : Type 0} where
  pub none_in : {x : A} → x ∈ [] → ⊥
  none_in h = elim h [ ]

  pub in_cons : {x y : A} {l : List A} → x ∈ (y ∷ l) → (x ≡ y) ⊎ (x ∈ l)
  in_cons (here e) = inl e
  in_cons (there h) = inr h

  pub in_one : {x y : A} → x ∈ (y ∷ []) → x ≡ y
  in_one h = ⊎_elim (λ e. e) (λ k. absurd (none_in k)) (in_cons h)

  pub in_append_left : {x : A} {l : List A} (m : List A) → x ∈ l → x ∈ (l ++ m)
  in_append_left m (here e) = here e
  in_append_left m (there h) = there (in_append_left m h)

  pub in_append_right : {x : A} (l : List A) {m : List A} → x ∈ m → x ∈ (l ++ m)
  in_append_right [] h = h
  in_append_right (y ∷ l) h = there (in_append_right l h)

  pub in_append : {x : A} (l : List A) {m : List A} → x ∈ (l ++ m) → (x ∈ l) ⊎ (x ∈ m)
  in_append [] h = inr h
  in_append {x} (y ∷ l) {m} h = ⊎_elim (λ e. inl (here e)) (λ k. ⊎_elim (λ a. inl (there a)) (λ b. inr b) (in_append l {m = m} k))
      (in_cons h)

  pub all_in : (p : A → Bool) {x : A} {l : List A} → T (all p l) → x ∈ l → T (p x)
  all_in p {x} {l = y ∷ l} t h = ⊎_elim (λ e. subst (λ z. T (p z)) (sym e) (and_both (p y) (all p l) t).0) (λ k. all_in
      p {l = l} (and_both (p y) (all p l) t).1 k) (in_cons h)
  all_in p {x} {l = []} t h = absurd (none_in h)

  pub in_all : (p : A → Bool) (l : List A) → ((x : A) → x ∈ l → T (p x)) → T (all p l)
  in_all p [] f = tt
  in_all p (y ∷ l) f = both_and (p y) (all p l) (f y (here refl)) (in_all p l (λ x h. f x (there h)))

  pub any_in : (p : A → Bool) (l : List A) → T (any p l) → (x : A) × (x ∈ l) × T (p x)
  any_in p [] t = absurd t
  any_in p (y ∷ l) t = ⊎_elim (λ a. (y, here refl, a)) (λ b. let r = any_in p l b in
      (r.0, there r.1, r.2)) (or_either (p y) (any p l) t)

  pub in_any : (p : A → Bool) {x : A} {l : List A} → x ∈ l → T (p x) → T (any p l)
  in_any p {x = x} {l = []} h t = elim h [ ]
  in_any p {x} {l = y ∷ l} (here e) t = either_or (p y) (any p l) (inl (subst (λ z. T (p z)) e t))
  in_any p {x} {l = y ∷ l} (there h) t = either_or (p y) (any p l) (inr (in_any p h t))

  in_filter_step : (p : A → Bool) (x y : A) (l : List A) → (x ∈ filter p l → (x ∈ l) × T (p x)) → (b : Bool) → p y ≡ b
      → x ∈ cond b (y ∷ filter p l) (filter p l) → (x ∈ (y ∷ l)) × T (p x)
  in_filter_step p x y l ih true e k = ⊎_elim (λ q. (here q, subst (λ z. T (p z)) (sym q) (subst T (sym e) tt))) (λ m. let r =
      ih m in (there r.0, r.1)) (in_cons k)
  in_filter_step p x y l ih false e k = let r = ih k in (there r.0, r.1)

  pub in_filter : (p : A → Bool) {x : A} (l : List A) → x ∈ filter p l → (x ∈ l) × T (p x)
  in_filter p [] h = absurd (none_in h)
  in_filter p {x} (y ∷ l) h = in_filter_step p x y l (in_filter p l) (p y) refl h

  filter_in_step : (p : A → Bool) (x y : A) (l : List A) → T (p x) → (x ∈ l → x ∈ filter p l) → (b : Bool) → p y ≡ b → (x ≡ y)
      ⊎ (x ∈ l) → x ∈ cond b (y ∷ filter p l) (filter p l)
  filter_in_step p x y l t ih true e (inl q) = here q
  filter_in_step p x y l t ih true e (inr m) = there (ih m)
  filter_in_step p x y l t ih false e (inl q) = absurd (subst T e (subst (λ z. T (p z)) q t))
  filter_in_step p x y l t ih false e (inr m) = ih m

  pub filter_in : (p : A → Bool) {x : A} (l : List A) → x ∈ l → T (p x) → x ∈ filter p l
  filter_in p [] h t = absurd (none_in h)
  filter_in p {x} (y ∷ l) h t = filter_in_step p x y l t (λ m. filter_in p l m t) (p y) refl (in_cons h)

module _ {A B : Type 0} where
  pub in_map : (f : A → B) {y : B} (l : List A) → y ∈ map f l → (x : A) × (x ∈ l) × (y ≡ f x)
  in_map f [] h = absurd (none_in h)
  in_map f (x ∷ l) h = ⊎_elim (λ e. (x, here refl, e)) (λ k. let r = in_map f l k in (r.0, there r.1, r.2)) (in_cons h)

  pub map_in : (f : A → B) {x : A} {l : List A} → x ∈ l → f x ∈ map f l
  map_in f (here e) = here (ap f e)
  map_in f (there h) = there (map_in f h)

  pub in_concat_map : (f : A → List B) {y : B} (l : List A) → y ∈ concat_map f l → (x : A) × (x ∈ l) × (y ∈ f x)
  in_concat_map f [] h = absurd (none_in h)
  in_concat_map f (x ∷ l) h = ⊎_elim (λ e. (x, here refl, e)) (λ k. let r = in_concat_map f l k in
      (r.0, there r.1, r.2)) (in_append (f x) h)

  pub concat_map_in : (f : A → List B) {x : A} {y : B} {l : List A} → x ∈ l → y ∈ f x → y ∈ concat_map f l
  concat_map_in f {y = y} (here {l = l} e) h = in_append_left (concat_map f l) (subst (λ w. y ∈ f w) e h)
  concat_map_in f (there {y = z} k) h = in_append_right (f z) (concat_map_in f k h)
