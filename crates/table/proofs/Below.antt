-- How many words of an ascending list are below one, and where that one stands. Assumes nothing.
use Prim.Native.Nat.{ℕ, zero, suc, ◌+◌, ◌≤◌, ◌<◌}
use mathlib.Core.Path.{◌≡◌, refl, sym, ap, subst, ◌∙◌}
use mathlib.Core.Bool.{Bool, true, false, cond}
use mathlib.Core.Logic.{⊎_elim}
use mathlib.Core.List.{List, [], ◌∷◌}
use native.Mathlib.Omega.{arith}
use lib.Dec.{ltb}
use lib.ListN.{length, get_or, take}
use lib.Seq.{length-take-le, get_or-take}
use borrow.Author.Tests.{lt-ltb, le-ltb}
use Rattle.rdfs.specs.Lists.{◌∈◌, here, there, Ascending, member}
use Rattle.rdfs.proofs.Lists.ListLaws.{in_cons, none_in}
use Rattle.rdfs.proofs.Words.FactLaws.{tests_member}
use Rattle.table.specs.Found.{below, found_as, found}
use Rattle.std.specs.Prelude.{Ok, Err}
use Rattle.table.proofs.TestAnswers.{is_true, is_false}
use Rattle.table.specs.Turning.{Turns}
use Rattle.table.proofs.Halving.{turns}
use Rattle.table.proofs.Filled.{at_in}

-- The first word is below w or not.
pub below_less : (x w : ℕ) (l : List ℕ) → x < w → below (x ∷ l) w ≡ suc (below l w)
below_less x w l h = ap (λ b. cond b 1 0 + below l w) (lt-ltb x w h) ∙ omega arith

pub below_not : (x w : ℕ) (l : List ℕ) → w ≤ x → below (x ∷ l) w ≡ below l w
below_not x w l h = ap (λ b. cond b 1 0 + below l w) (le-ltb x w h) ∙ omega arith

pub below_none : (w : ℕ) (l : List ℕ) → ((y : ℕ) → y ∈ l → w ≤ y) → below l w ≡ 0
below_none w [] h = refl
below_none w (x ∷ l) h = below_not x w l (h x (here refl)) ∙ below_none w l (λ y k. h y (there k))

pub below_within : (w : ℕ) (l : List ℕ) → below l w ≤ length l
below_within w [] = omega arith
below_within w (x ∷ l) = step (ltb x w) (below_within w l)
  where
    step : (b : Bool) → below l w ≤ length l → cond b 1 0 + below l w ≤ suc (length l)
    step true h = omega arith
    step false h = omega arith

-- A word below w is among the first `below`, and no other is.
pub below_up : (w : ℕ) (l : List ℕ) (k : ℕ) → Ascending l → k < length l → get_or l k 0 < w → k < below l w
below_up w [] k a h e = absurd (omega arith)
below_up w (x ∷ l) zero a h e = omega (arith, below_less x w l e)
below_up w (x ∷ l) (suc k) a h e =
    let first : x < w = omega (arith, a.0 (get_or l k 0) (at_in l k (omega arith))) in
    omega (arith, below_less x w l first, below_up w l k a.1 (omega arith) e)

pub below_down : (w : ℕ) (l : List ℕ) (k : ℕ) → Ascending l → k < length l → w ≤ get_or l k 0 → below l w ≤ k
below_down w [] k a h e = absurd (omega arith)
below_down w (x ∷ l) zero a h e = omega (arith, below_not x w l e, below_none w l (λ y m. omega (arith, a.0 y m)))
below_down w (x ∷ l) (suc k) a h e = step (ltb x w) (below_down w l k a.1 (omega arith) e)
  where
    step : (b : Bool) → below l w ≤ k → cond b 1 0 + below l w ≤ suc k
    step true r = omega arith
    step false r = omega arith

pub ruleset below_laws = (below_within, below_up, below_down)

-- The word at place i is w.
abbrev pub Stands : List ℕ → ℕ → ℕ → Type 0
Stands l w i = (i < length l) × (get_or l i 0 ≡ w)

-- A word that is there stands where the words below it end.
pub below_place : (w : ℕ) (l : List ℕ) → Ascending l → w ∈ l → Stands l w (below l w)
below_place w [] a h = absurd (none_in h)
below_place w (x ∷ l) a h = ⊎_elim first (λ m. later m (below_place w l a.1 m)) (in_cons h)
  where
    first : w ≡ x → Stands (x ∷ l) w (below (x ∷ l) w)
    first e =
        let none : below (x ∷ l) w ≡ 0 = below_not x w l (omega arith) ∙ below_none w l (λ y m. omega (arith, a.0 y m)) in
        subst (Stands (x ∷ l) w) (sym none) (omega arith, sym e)

    later : w ∈ l → Stands l w (below l w) → Stands (x ∷ l) w (below (x ∷ l) w)
    later m r = subst (Stands (x ∷ l) w) (sym (below_less x w l (a.0 w m))) (omega (arith, r.0), r.1)

-- What the search does with a test and with the place where it ends.
module _ (l : List ℕ) (w : ℕ) (a : Ascending l) where
  pub below_turns : (k r : ℕ) → k < length l → r ≡ cond (ltb (get_or l k 0) w) 1 0 → Turns (below l w) k r
  below_turns k r h e = turns (below l w) k (get_or l k 0) w r (below_up w l k a h) (below_down w l k a h) e

  pub place_there : (i : ℕ) → i ≡ below l w → i < length l → get_or l i 0 ≡ w → Ok i ≡ found l w
  place_there i b h e =
      let there : member l w ≡ true = is_true ((tests_member l w).complete (subst (λ x. x ∈ l) e (at_in l i h))) in
      sym (ap (λ m. found_as m (below l w)) there ∙ ap Ok (sym b))

  pub place_missing : (i : ℕ) → i ≡ below l w → (i < length l → get_or l i 0 ≡ w → ⊥) → Err i ≡ found l w
  place_missing i b n =
      let not_at : Stands l w (below l w) → ⊥ = subst (λ j. Stands l w j → ⊥) b (λ s. n s.0 s.1) in
      let gone : member l w ≡ false = is_false (λ t. not_at (below_place w l a ((tests_member l w).sound t))) in
      sym (ap (λ m. found_as m (below l w)) gone ∙ ap Err (sym b))

-- The same of the first n words of a table.
module _ (t : List ℕ) (n w : ℕ) (h : n ≤ length t) (a : Ascending (take n t)) where
  firsts : length (take n t) ≡ n
  firsts = length-take-le n t h

  pub first_within : below (take n t) w ≤ n
  first_within = omega (arith, below_within w (take n t), firsts)

  pub first_up : (k : ℕ) → k < n → get_or t k 0 < w → k < below (take n t) w
  first_up k l e = below_up w (take n t) k a (omega (arith, firsts)) (omega (arith, get_or-take n t k 0 l))

  pub first_down : (k : ℕ) → k < n → w ≤ get_or t k 0 → below (take n t) w ≤ k
  first_down k l e = below_down w (take n t) k a (omega (arith, firsts)) (omega (arith, get_or-take n t k 0 l))

-- What the answers of a search say.
module _ (l : List ℕ) (w i : ℕ) where
  pub found_at : found l w ≡ Ok i → (member l w ≡ true) × (below l w ≡ i)
  found_at e = go (member l w) e
    where
      go : (b : Bool) → found_as b (below l w) ≡ Ok i → (b ≡ true) × (below l w ≡ i)
      go true e = (refl, cc)
      go false e = absurd (let z : ◌≡◌ {A = ℕ} 0 1 = cc in omega arith)

  pub found_missing : found l w ≡ Err i → (member l w ≡ false) × (below l w ≡ i)
  found_missing e = go (member l w) e
    where
      go : (b : Bool) → found_as b (below l w) ≡ Err i → (b ≡ false) × (below l w ≡ i)
      go true e = absurd (let z : ◌≡◌ {A = ℕ} 0 1 = cc in omega arith)
      go false e = (refl, cc)
