-- Text put into a buffer piece by piece. Assumes nothing.
use Prim.Native.Nat.{ℕ, zero, suc, ◌+◌, ◌-◌, ◌/◌, ◌%◌, ◌^◌, ◌≤◌, ◌<◌}
use mathlib.Core.Path.{◌≡◌, refl, sym, ap, subst, ◌∙◌}
use mathlib.Core.List.{List, [], ◌∷◌, ◌++◌, append_assoc}
use native.Mathlib.Omega.{arith}
use native.Mathlib.Numerals.{add-one}
use native.Mathlib.Nat.{pow-le-pow_right}
use native.Mathlib.Decide.{dec_le}
use lib.ListN.{length, take, set, length-append}
use lib.Seq.{take-suc-set}
use Rattle.io.specs.Digits.{hex_digit_ascii, last_digits, IsDigitCount}
use Rattle.text.specs.Text.{Number, Fits, Puts}

pub digits_length : (k n : ℕ) → length (last_digits 10 k n) ≡ k
digits_length zero n = refl
digits_length (suc k) n = length-append (last_digits 10 k (n / 10)) (hex_digit_ascii (n % 10) ∷ [])
    ∙ (ap (λ m. m + 1) (digits_length k (n / 10)) ∙ add-one k)

number_length : (k n x : ℕ) → length (last_digits 10 k n ++ (x ∷ [])) ≡ k + 1
number_length k n x = length-append (last_digits 10 k n) (x ∷ []) ∙ ap (λ m. m + 1) (digits_length k n)

-- A number below 10 to the power d has at most d digits.
pub few_digits : (d n k : ℕ) → 1 ≤ d → n < 10 ^ d → IsDigitCount 10 1 n k → k ≤ d
few_digits d n k one h f = elim (dec_le k d) [
  | yes q ↦ q
  | no q ↦ absurd (omega (arith, h, f.2 (omega (arith, q)), pow-le-pow_right {n = 10} (omega arith) (more q)))
]
  where
    more : (k ≤ d → ⊥) → d ≤ k - 1
    more q = omega (arith, q)

module _ (d n x : ℕ) (one : 1 ≤ d) (h : n < 10 ^ d) where
  number_short : (text : List ℕ) → Number n x text → length text ≤ d + 1
  number_short text t = omega (arith, few_digits d n t.0 one h t.1, ap length t.2, number_length t.0 n x)

  pub number_fits : (at : ℕ) (out : List ℕ) → at + (d + 1) ≤ length out → Fits (Number n x) at out
  number_fits at out room text t = omega (arith, room, number_short text t)

  pub number_end : {at r : ℕ} {before after : List ℕ} → Puts (Number n x) at r before after → r ≤ at + (d + 1)
  number_end p = omega (arith, p.end, number_short p.text p.is)

-- A number's text has room: so have its digits and the byte after them.
pub digits_fit : (n x at k : ℕ) (out : List ℕ) → Fits (Number n x) at out → IsDigitCount 10 1 n k → at + k < length out
digits_fit n x at k out fits f = omega (arith, fits (last_digits 10 k n ++ (x ∷ [])) (k, f, refl), number_length k n x)

-- One byte more, at the end of what is there.
put_next : (l : List ℕ) (k x : ℕ) → k < length l → take (k + 1) (set l k x) ≡ take k l ++ (x ∷ [])
put_next l k x h = ap (λ m. take m (set l k x)) (add-one k) ∙ take-suc-set l k x h

-- Digits and the byte after them.
pub number_put : (at n k x : ℕ) (before after : List ℕ) → at + k < length after → IsDigitCount 10 1 n k
    → take (at + k) after ≡ take at before ++ last_digits 10 k n
    → Puts (Number n x) at (at + k + 1) before (set after (at + k) x)
number_put at n k x before after h f q = record {
  text = last_digits 10 k n ++ (x ∷ []);
  is = (k, f, refl);
  there = put_next after (at + k) x h ∙ (ap (λ l. l ++ (x ∷ [])) q
      ∙ append_assoc (take at before) (last_digits 10 k n) (x ∷ []));
  end = omega (arith, number_length k n x);
}

-- A text at the start of a buffer.
pub puts_start : {Text : List ℕ → Type 0} {r : ℕ} {before after : List ℕ} → Puts Text 0 r before after → Text (take r after)
puts_start {Text} p = subst Text (sym p.there) p.is
