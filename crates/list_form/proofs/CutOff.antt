-- The tickets of a list cut off after some of them are its first. Assumes nothing.
use Prim.Native.Nat.{ℕ, zero, suc, ◌+◌, ◌*◌, ◌<◌, ◌≤◌, min}
use mathlib.Core.Path.{◌≡◌, refl, sym, ap, ◌∙◌}
use mathlib.Core.List.{List, [], ◌∷◌, ◌++◌, append-nil}
use native.Mathlib.Omega.{arith}
use native.Mathlib.Decide.{dec_le}
use lib.ListN.{length, take, drop, length-append}
use lib.Seq.{take-nil, take_all, take-add, length-take-le}
use Rattle.rdfs.specs.Register.{cut}
use Rattle.rdfs.proofs.Register.Cut.{cut_more, cut_record, cut_short}

module _ (n : ℕ) (some : 0 < n) where
  pub cut_take : (k : ℕ) (l : List ℕ) → cut n (take (k * n) l) ≡ take k (cut n l)
  cut_take zero l = let none : 0 * n ≡ 0 = omega arith in ap (λ m. cut n (take m l)) none
  cut_take (suc k) [] = ap (cut n) (take-nil (suc k * n))
  cut_take (suc k) (x ∷ l) = elim (dec_le n (length (x ∷ l))) [
    | yes long ↦
        let size : suc k * n ≡ n + k * n = omega arith in
        let record-first : take (suc k * n) (x ∷ l) ≡ take n (x ∷ l) ++ take (k * n) (drop n (x ∷ l)) =
        ap (λ m. take m (x ∷ l)) size ∙ take-add n (k * n) (x ∷ l) in
        ap (cut n) record-first ∙ (cut_record n some (take n (x ∷ l)) (take (k * n) (drop n (x ∷ l)))
        (length-take-le n (x ∷ l) long)
        ∙ (ap (λ c. take n (x ∷ l) ∷ c) (cut_take k (drop n (x ∷ l))) ∙ sym (ap (take (suc k)) (cut_more n some x l))))
    | no short ↦
        let below : length (x ∷ l) ≤ n = omega (arith, short) in
        let one : cut n (x ∷ l) ≡ (x ∷ l) ∷ [] = cut_short n (x ∷ l) (omega arith) below in
        let whole : take (suc k * n) (x ∷ l) ≡ x ∷ l = take_all (suc k * n) (x ∷ l) (omega arith) in
        ap (cut n) whole ∙ (one ∙ (ap (λ c. (x ∷ l) ∷ c) (sym (take-nil k)) ∙ sym (ap (take (suc k)) one)))
  ]

  -- The first ticket of some bytes is a record, or all of them if they are short of one; the rest is cut on.
  pub cut_chunk : (l t rest : List ℕ) → l ≡ t ++ rest → length t ≡ min n (length l) → 0 < length l → cut n l ≡ t ∷ cut n rest
  cut_chunk l t rest e size h = elim (dec_le n (length l)) [
    | yes long ↦ ap (cut n) e ∙ cut_record n some t rest (omega (arith, size, long))
    | no short ↦ short_chunk rest e (omega (arith, ap length e, length-append t rest, size, short))
  ]
    where
      short_chunk : (left : List ℕ) → l ≡ t ++ left → length left ≡ 0 → cut n l ≡ t ∷ cut n left
      short_chunk [] whole none =
          let all : l ≡ t = whole ∙ append-nil t in
          rw all (cut_short n t (omega (arith, h, ap length all)) (omega (arith, size)))
      short_chunk (x ∷ left) whole none = absurd (omega (arith, none))

-- Where no byte is left, no ticket is.
pub cut_end : (n : ℕ) (l : List ℕ) → length l ≡ 0 → cut n l ≡ []
cut_end n [] h = refl
cut_end n (x ∷ l) h = absurd (omega (arith, h))
