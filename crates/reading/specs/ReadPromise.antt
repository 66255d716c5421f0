-- What `read` answers and leaves, for all words of a table and all bytes.
use Rattle.std.specs.Prelude.{ℕ, ◌≡◌, Bool, cond, List, [], ◌∷◌, ◌++◌, eqb, ltb, length}
use Rattle.rdfs.specs.Numbers.{product}
use Rattle.rdfs.specs.Words.{padded}
use Rattle.rdfs.specs.Refusals.{first_or, first_true, bad_size, inconsistent}
use Rattle.contents.specs.ImageForm.{image_form}
use Rattle.contents.specs.Reading.{words_of, malformed}

-- The words that an image gives, in the form that it is read in.
abbrev pub image_words : List ℕ → List ℕ
image_words bytes = words_of product (image_form bytes) bytes

-- Refusals 12 and 11 of bytes that are to be read into a number of words; then others.
abbrev pub image_tests : List ℕ → ℕ → List (ℕ × Bool)
image_tests bytes room =
    (12, malformed product (image_form bytes) bytes) ∷ (11, ltb room (length (image_words bytes))) ∷ []

abbrev pub image_refusal : List ℕ → ℕ → ℕ → ℕ
image_refusal bytes room = first_or (image_tests bytes room)

-- Reading: refusals 1, 12, 11, 3. The table's words are not looked at.
abbrev pub read_answer : List ℕ → List ℕ → ℕ
read_answer table bytes =
    first_true (((1, bad_size product table) ∷ image_tests bytes (length table))
    ++ ((3, inconsistent product (image_words bytes)) ∷ []))

-- The image's words, then zeros; on refusal the words as they were.
abbrev pub read_words : List ℕ → List ℕ → List ℕ
read_words table bytes =
    cond (eqb (read_answer table bytes) 0) (padded (length table) (image_words bytes)) table

-- The promise of reading, for all words of a table and all bytes: its answer, and the words left.
abbrev pub ReadPromise : List ℕ → List ℕ → ℕ → List ℕ → Type 0
ReadPromise table bytes answer left = (answer ≡ read_answer table bytes) × (left ≡ read_words table bytes)
