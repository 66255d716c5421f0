-- The ids one after another: tests over them, and the words of those that are flagged. Assumes nothing.
use Prim.Native.Nat.{ℕ, zero, suc, ◌+◌, ◌-◌, ◌≤◌, ◌<◌}
use mathlib.Core.Path.{◌≡◌, refl, sym, ap, subst, ◌∙◌}
use mathlib.Core.Bool.{Bool, true, false, ◌&&◌, ◌||◌, cond, and-false}
use mathlib.Core.Logic.{⊎_elim}
use mathlib.Core.List.{List, [], ◌∷◌, map}
use native.Mathlib.Omega.{arith}
use native.Mathlib.Nat.{eq-or-lt_of_le}
use lib.Dec.{T}
use Rattle.rdfs.specs.Numbers.{product}
use Rattle.rdfs.specs.Lists.{◌∈◌, here, there, filter, any}
use Rattle.rdfs.specs.Words.{is_fact}
use Rattle.table.specs.Parts.{word_of, kind_of, first_of, second_of, third_of, Digits}
use Rattle.table.proofs.Arity.{one_id, kind_within}
use Rattle.table.proofs.PartLaws.{tests_fact}
use Rattle.flags.specs.Flags.{flagged}
use Rattle.triples.specs.Storing.{numbers_from, ids, common, flagged_from, Flagged}

from_in : (i n x : ℕ) → i ≤ x → x < i + n → x ∈ numbers_from i n
from_in i zero x l h = absurd (omega arith)
from_in i (suc n) x l h = ⊎_elim (λ e. here (sym e)) (λ m. there (from_in (suc i) n x m (omega arith))) (eq-or-lt_of_le l)

pub id_in_lem : (x : ℕ) → x ≤ product.top → x ∈ ids
unfolding ids
id_in_lem x h = from_in 0 (suc product.top) x (omega arith) (omega arith)

-- The ids from n on.
abbrev pub from : ℕ → List ℕ
from n = numbers_from n (suc product.top - n)

pub from_all : ids ≡ from 0
unfolding ids
from_all = refl

pub from_more : (n : ℕ) → n ≤ product.top → from n ≡ n ∷ from (n + 1)
from_more n h =
    let one : suc product.top - n ≡ suc (suc product.top - (n + 1)) = omega arith in
    let next : suc n ≡ n + 1 = omega arith in
    ap (numbers_from n) one ∙ ap (λ m. n ∷ numbers_from m (suc product.top - (n + 1))) next

pub from_none : (n : ℕ) → product.top < n → from n ≡ []
from_none n h = let none : suc product.top - n ≡ 0 = omega arith in ap (numbers_from n) none

-- Whether any passes a test: those before n do not.
module _ (test : ℕ → Bool) where
  pub any_start : any test ids ≡ any test (from 0)
  any_start = ap (any test) from_all

  module _ (n : ℕ) (e : any test ids ≡ any test (from n)) where
    any_next : n ≤ product.top → any test ids ≡ (test n || any test (from (n + 1)))
    any_next h = e ∙ ap (any test) (from_more n h)

    pub any_found : n ≤ product.top → test n ≡ true → true ≡ any test ids
    any_found h t = sym (any_next h ∙ ap (λ b. b || any test (from (n + 1))) t)

    pub any_passed : n ≤ product.top → test n ≡ false → any test ids ≡ any test (from (n + 1))
    any_passed h t = any_next h ∙ ap (λ b. b || any test (from (n + 1))) t

    pub any_end : product.top < n → false ≡ any test ids
    any_end h = sym (e ∙ ap (any test) (from_none n h))

-- The flag of an id, by its place; whether an id is flagged in both.
at_place : (flags : List Bool) {i n : ℕ} → i ≡ n → (b : Bool) → flagged flags i ≡ b → flagged flags n ≡ b
at_place flags e b h = subst (λ j. flagged flags j ≡ b) e h

module _ (flags others : List Bool) {i n : ℕ} (e : i ≡ n) where
  pub not_first : flagged flags i ≡ false → common flags others n ≡ false
  not_first h = ap (λ b. b && flagged others n) (at_place flags e false h)

  pub not_second : flagged others i ≡ false → common flags others n ≡ false
  not_second h = ap (λ b. flagged flags n && b) (at_place others e false h) ∙ and-false (flagged flags n)

  pub flagged_both : {j : ℕ} → j ≡ n → flagged flags i ≡ true → flagged others j ≡ true → common flags others n ≡ true
  flagged_both d h k = ap (λ b. b && flagged others n) (at_place flags e true h) ∙ at_place others d true k

-- The words of the flagged ids from n on.
module _ (k : ℕ) (flags : List Bool) (n : ℕ) (h : n ≤ product.top) where
  abbrev more : List ℕ
  more = filter (flagged flags) (from (n + 1))

  flagged_next : {i : ℕ} (b : Bool) → i ≡ n → flagged flags i ≡ b
      → flagged_from k flags (from n) ≡ map (λ x. word_of k x 0 0) (cond b (n ∷ more) more)
  flagged_next b e t = ap (flagged_from k flags) (from_more n h)
      ∙ ap (λ r. map (λ x. word_of k x 0 0) (cond r (n ∷ more) more)) (at_place flags e b t)

  pub flagged_yes : {i w : ℕ} → i ≡ n → flagged flags i ≡ true → w ≡ word_of k n 0 0
      → flagged_from k flags (from n) ≡ w ∷ flagged_from k flags (from (n + 1))
  flagged_yes e t d = flagged_next true e t ∙ ap (λ w. w ∷ flagged_from k flags (from (n + 1))) (sym d)

  pub flagged_no : {i : ℕ} → i ≡ n → flagged flags i ≡ false → flagged_from k flags (from n) ≡ flagged_from k flags (from (n + 1))
  flagged_no e t = flagged_next false e t

  -- The word is a fact's.
  module _ (f : Flagged k flags) where
    pub flagged_digits : Digits k n 0 0
    flagged_digits = record {
      kind = omega (arith, kind_within k (omega (arith, f.kind)));
      first = omega arith;
      second = omega arith;
      third = omega arith;
    }

    pub flagged_fact : {i w : ℕ} → i ≡ n → flagged flags i ≡ true → w ≡ word_of k n 0 0 → T (is_fact product w)
    flagged_fact {w = w} e t d =
        let parts : (k ≡ kind_of w) × (n ≡ first_of w) × (0 ≡ second_of w) × (0 ≡ third_of w) = omega arith in
        (tests_fact w k n 0 0 parts.0 parts.1 parts.2 parts.3).complete (
          one_id k f.kind,
          record {
            first = h;
            second = omega arith;
            third = omega arith;
            not_first = λ one. subst T (sym t ∙ (ap (flagged flags) (e ∙ one) ∙ f.no_mark)) tt;
            not_third = omega arith;
            not_second = λ z. absurd (omega arith);
          },
        )
