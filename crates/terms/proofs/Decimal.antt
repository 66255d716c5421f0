-- A number in decimal, digit by digit. Assumes nothing.
use Prim.Native.Nat.{ℕ, zero, suc, ◌+◌, ◌*◌, ◌-◌, ◌/◌, ◌%◌, ◌≤◌, ◌<◌}
use mathlib.Core.Path.{◌≡◌, refl, sym, ap, subst, ◌∙◌}
use mathlib.Core.Bool.{Bool, true, false, cond}
use mathlib.Core.List.{List, [], ◌∷◌, ◌++◌, head-eq_of_cons-eq, tail-eq_of_cons-eq}
use native.Mathlib.Omega.{arith}
use lib.Dec.{T, leb, ltb, leb→le}
use lib.ListN.{get_or}
use borrow.Author.Tests.{lt-ltb, le-ltb, ltb-false, ltb-true, le-leb}
use Rattle.rdfs.specs.Lists.{all}
use Rattle.rdfs.proofs.Lists.Tests.{and_both, both_and}
use Rattle.terms.specs.Terms.{decimal_within, decimal}
use Rattle.terms.specs.TermRead.{is_digit}

-- Digits enough are enough.
within_more : (k n : ℕ) → n ≤ k → decimal_within (suc k) n ≡ decimal_within k n
within_more zero n h = ap (λ t. cond t ((48 + n) ∷ []) (decimal_within 0 (n / 10) ++ ((48 + n % 10) ∷ [])))
    (lt-ltb n 10 (omega arith))
within_more (suc k) n h = by (ltb n 10) refl (λ g. within_more k (n / 10) g)
  where
    by : (t : Bool) → ltb n 10 ≡ t → (n / 10 ≤ k → decimal_within (suc k) (n / 10) ≡ decimal_within k (n / 10))
        → cond t ((48 + n) ∷ []) (decimal_within (suc k) (n / 10) ++ ((48 + n % 10) ∷ []))
        ≡ cond t ((48 + n) ∷ []) (decimal_within k (n / 10) ++ ((48 + n % 10) ∷ []))
    by true e f = refl
    by false e f = ap (λ l. l ++ ((48 + n % 10) ∷ [])) (f (omega (arith, ltb-false n 10 e, h)))

within_any : (j n k : ℕ) → k ≡ n + j → decimal_within k n ≡ decimal n
unfolding decimal
within_any zero n k e = let same : k ≡ n = omega (arith, e) in ap (λ m. decimal_within m n) same
within_any (suc j) n k e =
    let same : k ≡ suc (n + j) = omega (arith, e) in
    ap (λ m. decimal_within m n) same ∙ (within_more (n + j) n (omega arith) ∙ within_any j n (n + j) refl)

-- One digit, and one digit more.
pub decimal_one : (n : ℕ) → n < 10 → decimal n ≡ (48 + n) ∷ []
unfolding decimal
decimal_one zero h = refl
decimal_one (suc n) h = ap (λ t. cond t ((48 + suc n) ∷ []) (decimal_within n (suc n / 10) ++ ((48 + suc n % 10) ∷ [])))
    (lt-ltb (suc n) 10 h)

opened : (m : ℕ) → 10 ≤ suc m → decimal (suc m) ≡ decimal_within m (suc m / 10) ++ ((48 + suc m % 10) ∷ [])
unfolding decimal
opened m h = ap (λ t. cond t ((48 + suc m) ∷ []) (decimal_within m (suc m / 10) ++ ((48 + suc m % 10) ∷ [])))
    (le-ltb (suc m) 10 h)

pub decimal_more : (n : ℕ) → 10 ≤ n → decimal n ≡ decimal (n / 10) ++ ((48 + n % 10) ∷ [])
decimal_more zero h = absurd (omega (arith, h))
decimal_more (suc m) h =
    let rest : m ≡ suc m / 10 + (m - suc m / 10) = omega (arith, h) in
    opened m h ∙ ap (λ l. l ++ ((48 + suc m % 10) ∷ [])) (within_any (m - suc m / 10) (suc m / 10) m rest)

-- One digit put behind a number from 1 on.
pub decimal_then : (v e : ℕ) → 1 ≤ v → e < 10 → decimal (10 * v + e) ≡ decimal v ++ ((48 + e) ∷ [])
decimal_then v e h g =
    let front : (10 * v + e) / 10 ≡ v = omega arith in
    let last : (10 * v + e) % 10 ≡ e = omega arith in
    decimal_more (10 * v + e) (omega arith) ∙ (ap (λ n. decimal n ++ ((48 + (10 * v + e) % 10) ∷ [])) front
    ∙ ap (λ n. decimal v ++ ((48 + n) ∷ [])) last)

-- The bytes of digits.
pub digit_is : (d : ℕ) → d < 10 → T (is_digit (48 + d))
digit_is d h = both_and (leb 48 (48 + d)) (leb (48 + d) 57) (by (le-leb 48 (48 + d) (omega arith)))
    (by (le-leb (48 + d) 57 (omega arith)))
  where
    by : {b : Bool} → b ≡ true → T b
    by e = subst T (sym e) tt

pub digit_range : (x : ℕ) → T (is_digit x) → (48 ≤ x) × (x ≤ 57)
digit_range x t = let both = and_both (leb 48 x) (leb x 57) t in (leb→le 48 x both.0, leb→le x 57 both.1)

pub digit_not : (x : ℕ) → is_digit x ≡ false → T (is_digit x) → ⊥
digit_not x e t = subst T e t

all_behind : (l : List ℕ) (x : ℕ) → T (all is_digit l) → T (is_digit x) → T (all is_digit (l ++ (x ∷ [])))
all_behind [] x h t = both_and (is_digit x) true t tt
all_behind (y ∷ l) x h t =
    let both = and_both (is_digit y) (all is_digit l) h in
    both_and (is_digit y) (all is_digit (l ++ (x ∷ []))) both.0 (all_behind l x both.1 t)

within_digits : (k n : ℕ) → n ≤ k → T (all is_digit (decimal_within k n))
within_digits zero n h = all_behind [] (48 + n) tt (digit_is n (omega arith))
within_digits (suc k) n h = by (ltb n 10) refl (within_digits k (n / 10))
  where
    by : (t : Bool) → ltb n 10 ≡ t → (n / 10 ≤ k → T (all is_digit (decimal_within k (n / 10))))
        → T (all is_digit (cond t ((48 + n) ∷ []) (decimal_within k (n / 10) ++ ((48 + n % 10) ∷ []))))
    by true e f = all_behind [] (48 + n) tt (digit_is n (ltb-true n 10 e))
    by false e f = all_behind (decimal_within k (n / 10)) (48 + n % 10) (f (omega (arith, ltb-false n 10 e, h)))
        (digit_is (n % 10) (omega arith))

pub decimal_digits : (n : ℕ) → T (all is_digit (decimal n))
unfolding decimal
decimal_digits n = within_digits n n (omega arith)

-- The value of digits behind a number.
abbrev pub valued : ℕ → List ℕ → ℕ
valued a [] = a
valued a (x ∷ l) = valued (10 * a + (x - 48)) l

valued_append : (a : ℕ) (l m : List ℕ) → valued a (l ++ m) ≡ valued (valued a l) m
valued_append a [] m = refl
valued_append a (x ∷ l) m = valued_append (10 * a + (x - 48)) l m

valued_grows : (a : ℕ) (l : List ℕ) → a ≤ valued a l
valued_grows a [] = omega arith
valued_grows a (x ∷ l) = omega (arith, valued_grows (10 * a + (x - 48)) l)

within_value : (k n : ℕ) → valued 0 (decimal_within k n) ≡ n
within_value zero n = omega arith
within_value (suc k) n = by (ltb n 10) (within_value k (n / 10))
  where
    by : (t : Bool) → valued 0 (decimal_within k (n / 10)) ≡ n / 10
        → valued 0 (cond t ((48 + n) ∷ []) (decimal_within k (n / 10) ++ ((48 + n % 10) ∷ []))) ≡ n
    by true f = omega arith
    by false f = valued_append 0 (decimal_within k (n / 10)) ((48 + n % 10) ∷ []) ∙ omega (arith, f)

pub decimal_value : (n : ℕ) → valued 0 (decimal n) ≡ n
unfolding decimal
decimal_value n = within_value n n

pub decimal_one_to_one : (m n : ℕ) → decimal m ≡ decimal n → m ≡ n
decimal_one_to_one m n e = sym (decimal_value m) ∙ (ap (valued 0) e ∙ decimal_value n)

-- The number of a front part of the digits is not above the whole.
pub decimal_front : (m n : ℕ) (more : List ℕ) → decimal n ≡ decimal m ++ more → m ≤ n
decimal_front m n more e =
    let whole : n ≡ valued m more =
    sym (decimal_value n) ∙ (ap (valued 0) e ∙ (valued_append 0 (decimal m) more ∙ ap (λ a. valued a more) (decimal_value m))) in
    omega (arith, whole, valued_grows m more)

-- The first digit of a number from 1 on.
pub record FirstDigit (l : List ℕ) : Type 0 where
  pub digit : ℕ
  pub others : List ℕ
  pub low : 1 ≤ digit
  pub high : digit ≤ 9
  pub whole : l ≡ (48 + digit) ∷ others

within_first : (k n : ℕ) → 1 ≤ n → n ≤ k → FirstDigit (decimal_within k n)
within_first zero n h g = absurd (omega (arith, h, g))
within_first (suc k) n h g = by (ltb n 10) refl (within_first k (n / 10))
  where
    by : (t : Bool) → ltb n 10 ≡ t → (1 ≤ n / 10 → n / 10 ≤ k → FirstDigit (decimal_within k (n / 10)))
        → FirstDigit (cond t ((48 + n) ∷ []) (decimal_within k (n / 10) ++ ((48 + n % 10) ∷ [])))
    by true e f = record { digit = n; others = []; low = h; high = omega (arith, ltb-true n 10 e); whole = refl }
    by false e f =
        let first = f (omega (arith, ltb-false n 10 e)) (omega (arith, h, g)) in
        record {
          digit = first.digit;
          others = first.others ++ ((48 + n % 10) ∷ []);
          low = first.low;
          high = first.high;
          whole = ap (λ l. l ++ ((48 + n % 10) ∷ [])) first.whole;
        }

pub decimal_first : (n : ℕ) → 1 ≤ n → FirstDigit (decimal n)
unfolding decimal
decimal_first n h = within_first n n h (omega arith)

-- Two runs of digits at the start of the same bytes. Where neither goes on they are the same run, and where the second does not
-- go on the first is its front.
pub span_unique : (l m r s : List ℕ) → T (all is_digit l) → T (all is_digit m) → is_digit (get_or r 0 0) ≡ false
    → is_digit (get_or s 0 0) ≡ false → l ++ r ≡ m ++ s → (l ≡ m) × (r ≡ s)
span_unique [] [] r s a b c d e = (refl, e)
span_unique [] (y ∷ m) r s a b c d e = absurd (digit_not (get_or r 0 0) c (subst (λ l. T (is_digit (get_or l 0 0))) (sym e)
    (and_both (is_digit y) (all is_digit m) b).0))
span_unique (x ∷ l) [] r s a b c d e = absurd (digit_not (get_or s 0 0) d (subst (λ l. T (is_digit (get_or l 0 0))) e
    (and_both (is_digit x) (all is_digit l) a).0))
span_unique (x ∷ l) (y ∷ m) r s a b c d e =
    let rest = span_unique l m r s (and_both (is_digit x) (all is_digit l) a).1 (and_both (is_digit y) (all is_digit m) b).1
    c d (tail-eq_of_cons-eq e) in
    ((λ i. head-eq_of_cons-eq e i ∷ rest.0 i), rest.1)

pub span_front : (l m r s : List ℕ) → T (all is_digit l) → is_digit (get_or s 0 0) ≡ false → l ++ r ≡ m ++ s
    → (more : List ℕ) × (m ≡ l ++ more)
span_front [] m r s a d e = (m, refl)
span_front (x ∷ l) [] r s a d e = absurd (digit_not (get_or s 0 0) d (subst (λ l. T (is_digit (get_or l 0 0))) e
    (and_both (is_digit x) (all is_digit l) a).0))
span_front (x ∷ l) (y ∷ m) r s a d e =
    let rest = span_front l m r s (and_both (is_digit x) (all is_digit l) a).1 d (tail-eq_of_cons-eq e) in
    let same : y ≡ x = sym (head-eq_of_cons-eq e) in
    (rest.0, (λ i. same i ∷ rest.1 i))
