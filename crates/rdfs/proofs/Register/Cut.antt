-- The cut of a list of bytes into tickets: record by record, what is short at the end; how many, and that nothing is lost.
-- Assumes nothing.
use Prim.Native.Nat.{ℕ, zero, suc, ◌+◌, ◌-◌, ◌/◌, ◌%◌, ◌≤◌, ◌<◌}
use mathlib.Core.Path.{◌≡◌, refl, sym, ap, ◌∙◌}
use mathlib.Core.Bool.{cond}
use mathlib.Core.List.{List, [], ◌∷◌, ◌++◌}
use native.Mathlib.Omega.{arith}
use native.Mathlib.Nat.{div-eq_of_lt, mod-eq_of_lt, div-eq-sub-div, mod-eq-sub-mod}
use native.Mathlib.Decide.{dec_lt}
use lib.Dec.{eqb}
use lib.ListN.{length, take, drop, length-drop, drop_of_length-le}
use lib.Seq.{take_all, take_at, drop_at}
use borrow.Author.Tests.{ne_eqb}
use Rattle.rdfs.specs.Register.{cut_within, cut}

-- How many tickets a number of bytes makes.
abbrev ticket_count : ℕ → ℕ → ℕ
ticket_count n m = m / n + cond (eqb (m % n) 0) 0 1

module _ (n : ℕ) (some : 0 < n) where
  drop_shorter : (x : ℕ) (l : List ℕ) (limit : ℕ) → length l ≤ limit → length (drop n (x ∷ l)) ≤ limit
  drop_shorter x l limit h = omega (arith, length-drop n (x ∷ l))

  -- More limit than bytes changes nothing.
  cut_limits : (a b : ℕ) (l : List ℕ) → length l ≤ a → length l ≤ b → cut_within a n l ≡ cut_within b n l
  cut_limits zero zero l h k = refl
  cut_limits zero (suc b) [] h k = refl
  cut_limits zero (suc b) (x ∷ l) h k = absurd (omega arith)
  cut_limits (suc a) zero [] h k = refl
  cut_limits (suc a) zero (x ∷ l) h k = absurd (omega arith)
  cut_limits (suc a) (suc b) [] h k = refl
  cut_limits (suc a) (suc b) (x ∷ l) h k =
      ap (λ r. take n (x ∷ l) ∷ r) (cut_limits a b (drop n (x ∷ l)) (drop_shorter x l a (omega arith))
      (drop_shorter x l b (omega arith)))

  pub cut_more : (x : ℕ) (l : List ℕ) → cut n (x ∷ l) ≡ take n (x ∷ l) ∷ cut n (drop n (x ∷ l))
  cut_more x l = ap (λ r. take n (x ∷ l) ∷ r) (cut_limits (length l) (length (drop n (x ∷ l))) (drop n (x ∷ l))
      (drop_shorter x l (length l) (omega arith)) (omega arith))

  -- What holds of no bytes, and of some if it holds of what is left after a record, holds of the cut.
  pub cut_induction : (P : List ℕ → List (List ℕ) → Type 0) → P [] []
      → ((x : ℕ) (l : List ℕ) (c : List (List ℕ)) → P (drop n (x ∷ l)) c → P (x ∷ l) (take n (x ∷ l) ∷ c)) → (l : List ℕ)
      → P l (cut n l)
  cut_induction P none more l = go (length l) l (omega arith)
    where
      go : (limit : ℕ) (l : List ℕ) → length l ≤ limit → P l (cut_within limit n l)
      go zero [] h = none
      go zero (x ∷ l) h = absurd (omega arith)
      go (suc limit) [] h = none
      go (suc limit) (x ∷ l) h =
          more x l (cut_within limit n (drop n (x ∷ l))) (go limit (drop n (x ∷ l)) (drop_shorter x l limit (omega arith)))

  pub cut_record : (t l : List ℕ) → length t ≡ n → cut n (t ++ l) ≡ t ∷ cut n l
  cut_record [] l e = absurd (omega arith)
  cut_record (x ∷ t) l e = cut_more x (t ++ l) ∙ (ap (λ r. r ∷ cut n (drop n (x ∷ t ++ l))) (take_at (x ∷ t) l n e)
      ∙ ap (λ r. (x ∷ t) ∷ cut n r) (drop_at (x ∷ t) l n e))

  count_none : ticket_count n 0 ≡ 0
  count_none = rw (div-eq_of_lt some, mod-eq_of_lt some)

  count_more : (m : ℕ) → 0 < m → ticket_count n m ≡ suc (ticket_count n (m - n))
  count_more m h = elim (dec_lt m n) [
    | yes short ↦
        let one : ticket_count n m ≡ 1 = rw (div-eq_of_lt short, mod-eq_of_lt short, ne_eqb m 0 (λ e. omega (arith, e))) in
        let left : m - n ≡ 0 = omega arith in
        rw left (one ∙ ap suc (sym count_none))
    | no long ↦
        let fits : n ≤ m = omega (arith, long) in
        rw (mod-eq-sub-mod fits) (omega (arith, div-eq-sub-div some fits))
  ]

  pub cut_length : (l : List ℕ) → length (cut n l) ≡ length l / n + cond (eqb (length l % n) 0) 0 1
  cut_length = cut_induction (λ l c. length c ≡ ticket_count n (length l)) (sym count_none)
      (λ x l c e. ap suc (e ∙ ap (ticket_count n) (length-drop n (x ∷ l))) ∙ sym (count_more (length (x ∷ l)) (omega arith)))

pub cut_short : (n : ℕ) (t : List ℕ) → 0 < length t → length t ≤ n → cut n t ≡ t ∷ []
cut_short n [] s h = absurd (omega arith)
cut_short n (x ∷ t) s h =
    cut_more n (omega arith) x t ∙ (ap (λ r. r ∷ cut n (drop n (x ∷ t))) (take_all n (x ∷ t) h)
    ∙ ap (λ r. (x ∷ t) ∷ cut n r) (drop_of_length-le (x ∷ t) h))
