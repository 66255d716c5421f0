-- The members of one ascending list that another lacks, member by member, and by places in both lists. Assumes nothing.
use Prim.Native.Nat.{ℕ, zero, suc, ◌≤◌, ◌<◌}
use mathlib.Core.Path.{◌≡◌, refl, sym, ap, subst, ◌∙◌}
use mathlib.Core.Bool.{Bool, true, false, not, ◌||◌, cond}
use mathlib.Core.List.{List, [], ◌∷◌}
use native.Mathlib.Omega.{arith}
use lib.Dec.{T, ltb, T_not, not_T, ltb→lt}
use lib.ListN.{length, get_or, drop, drop_of_length-le}
use lib.Seq.{drop-cons}
use borrow.Author.Tests.{ltb-false, ne_eqb}
use Rattle.rdfs.specs.Lists.{◌∈◌, here, there, member, Ascending}
use Rattle.rdfs.specs.Register.{newcomers}
use Rattle.rdfs.proofs.Lists.Filters.{cond_yes, cond_no, filter_all}
use Rattle.rdfs.proofs.Words.FactLaws.{member_in_lem, in_member}

-- A number below all of the list is not sought among the others.
pub newcomers_past : (y : ℕ) (o l : List ℕ) → ((x : ℕ) → x ∈ l → y < x) → newcomers (y ∷ o) l ≡ newcomers o l
newcomers_past y o [] h = refl
newcomers_past y o (x ∷ l) h =
    ap (λ b. cond (not (b || member o x)) (x ∷ newcomers (y ∷ o) l) (newcomers (y ∷ o) l))
    (ne_eqb x y (λ e. omega (arith, e, h x (here refl))))
    ∙ ap (λ m. cond (not (member o x)) (x ∷ m) m) (newcomers_past y o l (λ z k. h z (there k)))

-- One that is below all the others is not among them.
pub newcomers_first : (x : ℕ) (o l : List ℕ) → ((y : ℕ) → y ∈ o → x < y) → newcomers o (x ∷ l) ≡ x ∷ newcomers o l
newcomers_first x o l h = cond_yes (not (member o x)) (x ∷ newcomers o l) (newcomers o l)
    (not_T (member o x) (λ t. omega (arith, h x (member_in_lem o x t))))

-- One that is the first of both is not new.
pub newcomers_same : (x : ℕ) (o l : List ℕ) → ((y : ℕ) → y ∈ l → x < y) → newcomers (x ∷ o) (x ∷ l) ≡ newcomers o l
newcomers_same x o l h = cond_no (not (member (x ∷ o) x)) (x ∷ newcomers (x ∷ o) l) (newcomers (x ∷ o) l)
    (λ t. T_not (member (x ∷ o) x) t (in_member (x ∷ o) x (here refl)))
    ∙ newcomers_past x o l h

-- Beside no others all are.
pub newcomers_all : (l : List ℕ) → newcomers [] l ≡ l
newcomers_all l = filter_all (λ n. not (member [] n)) l (λ x k. tt)

ascending_drop : (i : ℕ) (l : List ℕ) → Ascending l → Ascending (drop i l)
ascending_drop zero l a = a
ascending_drop (suc i) [] a = a
ascending_drop (suc i) (x ∷ l) a = ascending_drop i l a.1

-- The members from a place on above the one there.
above : (l : List ℕ) (i : ℕ) → Ascending l → i < length l → (y : ℕ) → y ∈ drop (suc i) l → get_or l i 0 < y
above l i a h = (subst Ascending (drop-cons l i 0 h) (ascending_drop i l a)).0

-- What is left to be found from a place on in each list.
module _ (words others : List ℕ) (a : Ascending words) (b : Ascending others) (at passed : ℕ) where
  abbrev left : ℕ → ℕ → List ℕ
  left place past = newcomers (drop past others) (drop place words)

  pub left_within : 0 < length (left at passed) → at < length words
  left_within some = by (ltb at (length words)) refl
    where
      by : (t : Bool) → ltb at (length words) ≡ t → at < length words
      by true e = ltb→lt at (length words) (subst T (sym e) tt)
      by false e =
          let none : drop at words ≡ [] = drop_of_length-le words (ltb-false at (length words) e) in
          absurd (omega (arith, some, ap (λ l. length (newcomers (drop passed others) l)) none))

  module _ (h : at < length words) where
    word_first : drop at words ≡ get_or words at 0 ∷ drop (suc at) words
    word_first = drop-cons words at 0 h

    -- The others have been passed.
    pub left_end : length others ≤ passed → left at passed ≡ get_or words at 0 ∷ left (suc at) passed
    left_end e =
        let none : drop passed others ≡ [] = drop_of_length-le others e in
        ap (newcomers (drop passed others)) word_first
        ∙ newcomers_first (get_or words at 0) (drop passed others) (drop (suc at) words)
        (λ y k. absurd (elim (subst (λ o. y ∈ o) none k) [ ]))

    module _ (k : passed < length others) where
      other_first : drop passed others ≡ get_or others passed 0 ∷ drop (suc passed) others
      other_first = drop-cons others passed 0 k

      pub left_found : get_or words at 0 < get_or others passed 0 → left at passed ≡ get_or words at 0 ∷ left (suc at) passed
      left_found e =
          ap (newcomers (drop passed others)) word_first
          ∙ newcomers_first (get_or words at 0) (drop passed others) (drop (suc at) words)
          (λ y m. below y (subst (λ o. y ∈ o) other_first m))
        where
          below : (y : ℕ) → y ∈ (get_or others passed 0 ∷ drop (suc passed) others) → get_or words at 0 < y
          below y (here q) = omega (arith, q, e)
          below y (there m) = omega (arith, above others passed b k y m, e)

      pub left_same : get_or words at 0 ≡ get_or others passed 0 → left at passed ≡ left (suc at) (suc passed)
      left_same e =
          ap (λ o. newcomers o (drop at words)) (other_first ∙ ap (λ n. n ∷ drop (suc passed) others) (sym e))
          ∙ (ap (newcomers (get_or words at 0 ∷ drop (suc passed) others)) word_first
          ∙ newcomers_same (get_or words at 0) (drop (suc passed) others) (drop (suc at) words) (above words at a h))

      pub left_past : get_or others passed 0 < get_or words at 0 → left at passed ≡ left at (suc passed)
      left_past e =
          ap (λ o. newcomers o (drop at words)) other_first
          ∙ newcomers_past (get_or others passed 0) (drop (suc passed) others) (drop at words)
          (λ y m. up y (subst (λ l. y ∈ l) word_first m))
        where
          up : (y : ℕ) → y ∈ (get_or words at 0 ∷ drop (suc at) words) → get_or others passed 0 < y
          up y (here q) = omega (arith, q, e)
          up y (there m) = omega (arith, above words at a h y m, e)
