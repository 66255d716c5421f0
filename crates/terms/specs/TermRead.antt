-- What is read at the start of some bytes, and what is left behind it: a digit, a number, a term. Each reader
-- answers one, or none where none stands.
use Rattle.std.specs.Prelude.{ℕ, ◌+◌, ◌≤◌, ◌≡◌, Bool, false, ◌&&◌, List, ◌∷◌, ◌++◌, leb, get_or}
use Rattle.rdfs.specs.Numbers.{product}
use Rattle.terms.specs.Terms.{decimal, spelt, ended, Proper}
use Rattle.terms.specs.declared.term.Term.{Term}

abbrev pub is_digit : ℕ → Bool
is_digit byte = leb 48 byte && leb byte 57

-- The value of a digit.
pub record DigitRead (l : List ℕ) (digit : ℕ) (left : List ℕ) : Type 0 where
  pub high : digit ≤ 9
  pub stands : l ≡ (48 + digit) ∷ left

abbrev pub NoDigit : List ℕ → Type 0
NoDigit l = is_digit (get_or l 0 0) ≡ false

-- A number from 1 up to the highest id, and what is left behind its last digit.
pub record DigitsRead (l : List ℕ) (value : ℕ) (left : List ℕ) : Type 0 where
  pub sound : (1 ≤ value) × (value ≤ product.top) × (l ≡ decimal value ++ left)
  pub complete : (n : ℕ) (rest : List ℕ) → 1 ≤ n → n ≤ product.top → NoDigit rest → l ≡ decimal n ++ rest
      → (value ≡ n) × (left ≡ rest)

pub record NoDigits (l : List ℕ) : Type 0 where
  pub none : (n : ℕ) (rest : List ℕ) → 1 ≤ n → n ≤ product.top → NoDigit rest → l ≡ decimal n ++ rest → ⊥

-- A number from 2 on, with the byte `end` behind it.
pub record NumberRead (l : List ℕ) (end value : ℕ) (left : List ℕ) : Type 0 where
  pub sound : (2 ≤ value) × (value ≤ product.top) × (l ≡ decimal value ++ (end ∷ left))
  pub complete : (n : ℕ) (rest : List ℕ) → 2 ≤ n → n ≤ product.top → l ≡ decimal n ++ (end ∷ rest)
      → (value ≡ n) × (left ≡ rest)

pub record NoNumber (l : List ℕ) (end : ℕ) : Type 0 where
  pub none : (n : ℕ) (rest : List ℕ) → 2 ≤ n → n ≤ product.top → l ≡ decimal n ++ (end ∷ rest) → ⊥

-- A term.
pub record TermRead (l : List ℕ) (term : Term) (left : List ℕ) : Type 0 where
  pub sound : Proper product.top term × (l ≡ spelt term ++ left)
  pub complete : (t : Term) (rest : List ℕ) → Proper product.top t → l ≡ spelt t ++ rest
      → (term ≡ t) × (left ≡ rest)

pub record NoTerm (l : List ℕ) : Type 0 where
  pub none : (t : Term) (rest : List ℕ) → Proper product.top t → l ≡ spelt t ++ rest → ⊥

-- A term with a blank behind it.
pub record EndedRead (l : List ℕ) (term : Term) (left : List ℕ) : Type 0 where
  pub sound : Proper product.top term × (l ≡ ended (spelt term) ++ left)
  pub complete : (t : Term) (rest : List ℕ) → Proper product.top t → l ≡ ended (spelt t) ++ rest
      → (term ≡ t) × (left ≡ rest)

pub record NotEnded (l : List ℕ) : Type 0 where
  pub none : (t : Term) (rest : List ℕ) → Proper product.top t → l ≡ ended (spelt t) ++ rest → ⊥
