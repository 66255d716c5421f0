-- A number read digit by digit, as read_digits goes. Assumes nothing.
use Prim.Native.Nat.{ℕ, ◌+◌, ◌*◌, ◌≤◌, ◌<◌}
use mathlib.Core.Path.{◌≡◌, sym, ap, ◌∙◌}
use mathlib.Core.List.{List, [], ◌∷◌, ◌++◌, append_assoc}
use native.Mathlib.Omega.{arith}
use lib.ListN.{get_or}
use Rattle.terms.specs.Terms.{decimal}
use Rattle.terms.specs.TermRead.{DigitRead, NoDigit, DigitsRead, NoDigits}
use Rattle.terms.proofs.Decimal.{
  decimal_one,
  decimal_then,
  decimal_digits,
  decimal_one_to_one,
  decimal_front,
  decimal_first,
  digit_is,
  digit_not,
  span_unique,
  span_front,
}

-- No number from 1 on stands where no digit from 1 on does.
module _ (l : List ℕ) where
  first_of : (n : ℕ) (rest : List ℕ) → 1 ≤ n → l ≡ decimal n ++ rest
      → (digit : ℕ) × (1 ≤ digit) × (digit ≤ 9) × (get_or l 0 0 ≡ 48 + digit)
  first_of n rest h e =
      let first = decimal_first n h in
      (first.digit, first.low, first.high, ap (λ m. get_or m 0 0) e ∙ ap (λ m. get_or (m ++ rest) 0 0) first.whole)

  pub digits_none : NoDigit l → NoDigits l
  digits_none d = record {
    none = λ n rest h top other e.
        let first = first_of n rest h e in
        digit_not (get_or l 0 0) d (rw first.3 (digit_is first.0 (omega (arith, first.2))));
  }

  pub digits_zero : {d : ℕ} {left : List ℕ} → DigitRead l d left → d ≡ 0 → NoDigits l
  digits_zero d z = record {
    none = λ n rest h top other e.
        let first = first_of n rest h e in
        omega (arith, z, first.1, first.3, ap (λ m. get_or m 0 0) d.stands);
  }

-- A number so far: its digits stand at the start.
pub record NumberSoFar (text : List ℕ) (value : ℕ) (left : List ℕ) : Type 0 where
  pub low : 1 ≤ value
  pub high : value ≤ 255
  pub so_far : text ≡ decimal value ++ left

pub number_first : {text left : List ℕ} {d : ℕ} → DigitRead text d left → 1 ≤ d → NumberSoFar text d left
number_first {left = left} {d = d} r l = record {
  low = l;
  high = omega (arith, r.high);
  so_far = r.stands ∙ ap (λ m. m ++ left) (sym (decimal_one d (omega (arith, r.high))));
}

module _ {text left : List ℕ} {value : ℕ} (s : NumberSoFar text value left) where
  -- One digit more.
  module _ {d : ℕ} {next : List ℕ} (r : DigitRead left d next) where
    more : text ≡ decimal (10 * value + d) ++ next
    more = s.so_far ∙ (ap (λ l. decimal value ++ l) r.stands
        ∙ (sym (append_assoc (decimal value) ((48 + d) ∷ []) next)
        ∙ ap (λ l. l ++ next) (sym (decimal_then value d s.low (omega (arith, r.high))))))

    pub number_more : 10 * value + d ≤ 255 → NumberSoFar text (10 * value + d) next
    number_more h = record { low = omega (arith, s.low); high = h; so_far = more }

    -- It is too high already.
    pub number_high : 255 < 10 * value + d → NoDigits text
    number_high h = record {
      none = λ n rest low top other q.
          let both = span_front (decimal (10 * value + d)) (decimal n) next rest (decimal_digits (10 * value + d)) other
          (sym more ∙ q) in
          omega (arith, h, top, decimal_front (10 * value + d) n both.0 both.1);
    }

  -- It ends where no digit stands.
  pub number_ends : NoDigit left → DigitsRead text value left
  number_ends d = record {
    sound = (s.low, s.high, s.so_far);
    complete = λ n rest low top other q. let both = span_unique (decimal value) (decimal n) left rest
        (decimal_digits value) (decimal_digits n) d other (sym s.so_far ∙ q) in
        (decimal_one_to_one value n both.0, both.1);
  }
