-- Numbers in bytes, both ways: one number, and numbers one after another. Assumes nothing.
use Prim.Native.Nat.{ℕ, zero, suc, ◌+◌, ◌*◌, ◌/◌, ◌%◌, ◌^◌, ◌≤◌, ◌<◌}
use mathlib.Core.Path.{◌≡◌, refl, sym, ap, subst, ◌∙◌}
use mathlib.Core.List.{List, [], ◌∷◌, ◌++◌, append_assoc}
use native.Mathlib.Omega.{arith}
use native.Mathlib.Decide.{dec_lt}
use native.Mathlib.Nat.{mod-add-div, pow-succ', pow-le-pow_right}
use lib.ListN.{length, get_or, take, drop, length-take, length-drop, get_or-eq_default}
use lib.Seq.{take_at, drop_at, drop-drop, take-add, get_or-take, get_or-drop, length-take-le}
use Rattle.rdfs.specs.Lists.{concat_map}
use Rattle.contents.specs.ImageForm.{in_bytes, from_bytes}
use Rattle.contents.specs.Reading.{number_at}

pub in_bytes_length : (n x : ℕ) → length (in_bytes n x) ≡ n
in_bytes_length zero x = refl
in_bytes_length (suc zero) x = refl
in_bytes_length (suc (suc n)) x = ap suc (in_bytes_length (suc n) (x / 256))

pub in_bytes_back : (n x : ℕ) → 0 < n → from_bytes (in_bytes n x) ≡ x
in_bytes_back zero x h = absurd (omega arith)
in_bytes_back (suc zero) x h = omega arith
in_bytes_back (suc (suc n)) x h = omega (arith, in_bytes_back (suc n) (x / 256) (omega arith), mod-add-div x 256)

-- Every number of the list is below B; every number is a byte.
abbrev pub Under : ℕ → List ℕ → Type 0
Under B l = (i : ℕ) → get_or l i 0 < B

abbrev pub AllBytes : List ℕ → Type 0
AllBytes l = Under 256 l

pub under_drop : {B : ℕ} (n : ℕ) (l : List ℕ) → Under B l → Under B (drop n l)
under_drop n l h i = omega (arith, get_or-drop n l i 0, h (n + i))

pub under_take : {B : ℕ} (n : ℕ) (l : List ℕ) → Under B l → Under B (take n l)
under_take n l h i = elim (dec_lt i n) [
  | yes q ↦ omega (arith, get_or-take n l i 0 q, h i)
  | no q ↦ omega (arith, h i, get_or-eq_default (take n l) 0 {n = i} (omega (arith, q, length-take n l)))
]

pub from_bytes_bound : (l : List ℕ) → AllBytes l → from_bytes l < 256 ^ length l
from_bytes_bound [] h = omega arith
from_bytes_bound (b ∷ l) h =
    let more : 256 ^ suc (length l) ≡ 256 * 256 ^ length l = pow-succ' 256 (length l) in
    let rest : from_bytes l < 256 ^ length l = from_bytes_bound l (λ i. h (suc i)) in
    subst (λ n. b + 256 * from_bytes l < n) (sym more) (omega (arith, h 0))

pub from_bytes_back : (n : ℕ) (l : List ℕ) → length l ≡ n → AllBytes l → in_bytes n (from_bytes l) ≡ l
from_bytes_back zero [] e h = refl
from_bytes_back zero (b ∷ l) e h = absurd (omega arith)
from_bytes_back (suc n) [] e h = absurd (omega arith)
from_bytes_back (suc zero) (b ∷ []) e h = ap (λ x. x ∷ []) (omega arith)
from_bytes_back (suc zero) (b ∷ a ∷ l) e h = absurd (omega arith)
from_bytes_back (suc (suc n)) (b ∷ l) e h =
    let x : ℕ = from_bytes l in
    let low : (b + 256 * x) % 256 ≡ b = omega (arith, h 0) in
    let high : (b + 256 * x) / 256 ≡ x = omega (arith, h 0) in
    rw (low, high) (ap (λ m. b ∷ m) (from_bytes_back (suc n) l (omega arith) (λ i. h (suc i))))

-- A number of s bytes.
pub number_bound : (s : ℕ) (bytes : List ℕ) → AllBytes bytes → (q : ℕ) → number_at s bytes q < 256 ^ s
number_bound s bytes b q =
    let part : List ℕ = take s (drop q bytes) in
    let short : length part ≤ s = omega (arith, length-take s (drop q bytes)) in
    let grows : 256 ^ length part ≤ 256 ^ s = pow-le-pow_right {n = 256} (omega arith) short in
    omega (arith, grows, from_bytes_bound part (under_take s (drop q bytes) (under_drop q bytes b)))

-- n numbers of s bytes each from place q on.
abbrev pub numbers_from : ℕ → List ℕ → ℕ → ℕ → List ℕ
numbers_from s bytes q zero = []
numbers_from s bytes q (suc n) = number_at s bytes q ∷ numbers_from s bytes (q + s) n

module _ (s : ℕ) (h : 0 < s) (bytes : List ℕ) where
  pub numbers_read : (m rest : List ℕ) (q : ℕ) → drop q bytes ≡ concat_map (in_bytes s) m ++ rest → numbers_from s bytes q (length m)
      ≡ m
  numbers_read [] rest q e = refl
  numbers_read (x ∷ m) rest q e =
      let tail : List ℕ = concat_map (in_bytes s) m ++ rest in
      let split : drop q bytes ≡ in_bytes s x ++ tail = e ∙ append_assoc (in_bytes s x) (concat_map (in_bytes s) m) rest in
      let first : number_at s bytes q ≡ x = ap (λ l. from_bytes (take s l)) split
      ∙ (ap from_bytes (take_at (in_bytes s x) tail s (in_bytes_length s x)) ∙ in_bytes_back s x h) in
      let later : drop (q + s) bytes ≡ tail =
      sym (drop-drop s q bytes) ∙ (ap (drop s) split ∙ drop_at (in_bytes s x) tail s (in_bytes_length s x)) in
      rw (first) (ap (λ l. x ∷ l) (numbers_read m rest (q + s) later))

  pub numbers_written : AllBytes bytes → (n q : ℕ) → q + n * s ≤ length bytes → concat_map (in_bytes s) (numbers_from s bytes q n)
      ≡ take (n * s) (drop q bytes)
  numbers_written b zero q l = let none : 0 ≡ 0 * s = omega arith in ap (λ k. take k (drop q bytes)) none
  numbers_written b (suc n) q l =
      let part : List ℕ = take s (drop q bytes) in
      let long : length part ≡ s = length-take-le s (drop q bytes) (omega (arith, length-drop q bytes)) in
      let first : in_bytes s (number_at s bytes q) ≡ part =
      from_bytes_back s part long (under_take s (drop q bytes) (under_drop q bytes b)) in
      let more : suc n * s ≡ s + n * s = omega arith in
      ap (λ a. a ++ concat_map (in_bytes s) (numbers_from s bytes (q + s) n)) first
      ∙ (ap (λ a. part ++ a) (numbers_written b n (q + s) (omega arith) ∙ ap (take (n * s)) (sym (drop-drop s q bytes)))
      ∙ (sym (take-add s (n * s) (drop q bytes)) ∙ ap (λ k. take k (drop q bytes)) (sym more)))
