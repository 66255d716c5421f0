-- A word's kind and ids: its digits at the product's base.
use Rattle.std.specs.Prelude.{ℕ, ◌+◌, ◌*◌, ◌/◌, ◌%◌, ◌≤◌, ◌<◌, ◌≡◌, List, [], ◌∷◌, map}
use Rattle.rdfs.specs.Numbers.{product, arity}
use Rattle.rdfs.specs.Facts.{cl, pr, ind, lit, csub, psub, dom, rng, ci, pi, excl, kind}

abbrev pub kind_of : ℕ → ℕ
kind_of word = word / product.base / product.base / product.base

abbrev pub first_of : ℕ → ℕ
first_of word = word / product.base / product.base % product.base

abbrev pub second_of : ℕ → ℕ
second_of word = word / product.base % product.base

abbrev pub third_of : ℕ → ℕ
third_of word = word % product.base

-- kind × base³ + a × base² + b × base + c
abbrev pub word_of : ℕ → ℕ → ℕ → ℕ → ℕ
word_of k a b c = ((k * product.base + a) * product.base + b) * product.base + c

-- The kinds' numbers, ascending.
abbrev pub kind_numbers : List ℕ
kind_numbers =
    map kind (cl 0 ∷ pr 0 ∷ ind 0 ∷ lit 0 ∷ csub 0 0 ∷ psub 0 0 ∷ dom 0 0 ∷ rng 0 0 ∷ ci 0 0 ∷ pi 0 0 0
    ∷ excl 0 ∷ [])

-- Numbers that make a word: a kind that leaves room for more kinds, ids that are digits.
pub record Digits (k a b c : ℕ) : Type 0 where
  pub kind : k < 16
  pub first : a < product.base
  pub second : b < product.base
  pub third : c < product.base

-- The number is a kind, and the ids that the kind does not use are 0.
pub record Shaped (k b c : ℕ) : Type 0 where
  pub some : 1 ≤ arity k
  pub second : arity k ≤ 1 → b ≡ 0
  pub third : arity k ≤ 2 → c ≡ 0

-- Ids up to the highest, id 1 only as b of Rng.
pub record Allowed (top k a b c : ℕ) : Type 0 where
  pub first : a ≤ top
  pub second : b ≤ top
  pub third : c ≤ top
  pub not_first : a ≡ 1 → ⊥
  pub not_third : c ≡ 1 → ⊥
  pub not_second : b ≡ 1 → k ≡ 8
