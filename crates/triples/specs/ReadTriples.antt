-- What `read_triples` answers and leaves, for all words of a table and all bytes.
use Rattle.std.specs.Prelude.{ℕ, ◌≡◌, Bool, cond, List, [], ◌∷◌, ◌++◌, eqb, ltb, length}
use Rattle.rdfs.specs.Numbers.{product}
use Rattle.rdfs.specs.Words.{padded}
use Rattle.rdfs.specs.Refusals.{first_true, bad_size, inconsistent}
use Rattle.triples.specs.TextRead.{outside_profile, text_words}

-- Refusals 15 and 11 of a text that is to be read into a number of words.
abbrev pub text_tests : List ℕ → ℕ → List (ℕ × Bool)
text_tests text room =
    (15, outside_profile product.top text) ∷ (11, ltb room (length (text_words product text))) ∷ []

abbrev pub text_refusal : List ℕ → ℕ → ℕ
text_refusal text room = first_true (text_tests text room)

-- Reading: refusals 1, 15, 11, 3. The table's words are not looked at.
abbrev pub read_triples_answer : List ℕ → List ℕ → ℕ
read_triples_answer table text =
    first_true (((1, bad_size product table) ∷ text_tests text (length table))
    ++ ((3, inconsistent product (text_words product text)) ∷ []))

-- The words of the text's facts, then zeros; on refusal the words as they were.
abbrev pub read_triples_words : List ℕ → List ℕ → List ℕ
read_triples_words table text =
    cond (eqb (read_triples_answer table text) 0) (padded (length table) (text_words product text)) table

-- The promise of reading, for all words of a table and all bytes.
pub record ReadTriplesPromise (table text : List ℕ) (answer : ℕ) (left : List ℕ) : Type 0 where
  pub answer_is : answer ≡ read_triples_answer table text
  pub words_are : left ≡ read_triples_words table text
