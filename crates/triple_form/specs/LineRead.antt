-- What is read of a line: the fact of its terms, and the line at the start of some bytes; or none.
use Rattle.std.specs.Prelude.{ℕ, ◌≡◌, Bool, List, ◌++◌, T, Some}
use Rattle.rdfs.specs.Numbers.{product}
use Rattle.rdfs.specs.Words.{word, fact, is_fact}
use Rattle.triple_form.specs.Lines.{Line, subject, predicate, object, line_of, in_profile}
use Rattle.terms.specs.declared.term.Term.{Term}

-- The line of a word, if its object is a literal or not.
abbrev pub word_line : ℕ → Bool → Line
word_line w literal = record { fact = fact product.base w; literal = literal }

-- A line inside the profile has three terms.
pub record HasTerms (s p o : Term) (line : Line) : Type 0 where
  pub inside : T (in_profile product.top line)
  pub subject_is : Some s ≡ subject line.fact
  pub predicate_is : Some p ≡ predicate line.fact
  pub object_is : Some o ≡ object line.literal line.fact

-- The word of the fact whose line has three terms, and whether the object is a literal.
pub record FactOf (s p o : Term) (w : ℕ) (literal : Bool) : Type 0 where
  pub sound : T (is_fact product w) × HasTerms s p o (word_line w literal)
  pub complete : (line : Line) → HasTerms s p o line → (w ≡ word product.base line.fact) × (literal ≡ line.literal)

-- No line inside the profile has three terms.
pub record NoFact (s p o : Term) : Type 0 where
  pub none : (line : Line) → HasTerms s p o line → ⊥

-- A line, by the word of its fact.
pub record LineRead (l : List ℕ) (w : ℕ) (literal : Bool) (left : List ℕ) : Type 0 where
  pub sound : T (is_fact product w) × T (in_profile product.top (word_line w literal))
      × (l ≡ line_of (word_line w literal) ++ left)
  pub complete : (line : Line) (rest : List ℕ) → T (in_profile product.top line) → l ≡ line_of line ++ rest
      → (w ≡ word product.base line.fact) × (literal ≡ line.literal) × (left ≡ rest)

-- The bytes do not begin with a line inside the profile.
pub record NoLine (l : List ℕ) : Type 0 where
  pub none : (line : Line) (rest : List ℕ) → T (in_profile product.top line) → l ≡ line_of line ++ rest → ⊥
