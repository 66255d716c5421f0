-- What turning an image into a text answers and leaves, for all bytes: reading, then writing.
use Rattle.std.specs.Prelude.{ℕ, ◌≡◌, cond, List, eqb, replicate, Result}
use Rattle.rdfs.specs.Numbers.{product}
use Rattle.reading.specs.ReadPromise.{read_answer, read_words}
use Rattle.table.specs.Refused.{answer_of}
use Rattle.table.specs.declared.refusals.Refusal.{Refusal}
use Rattle.triples.specs.WriteTriples.{write_triples_answer, write_triples_length, write_triples_bytes, length_of}

-- The words that the image, or the text, is read into. Reading does not look at them.
abbrev pub room : List ℕ
room = replicate product.most 0

-- The refusals of reading the image, then those of writing the words that were read.
abbrev pub to_text_answer : List ℕ → List ℕ → ℕ
to_text_answer image output =
    cond (eqb (read_answer room image) 0) (write_triples_answer (read_words room image) output)
    (read_answer room image)

-- The text's length; 0 on refusal.
abbrev pub to_text_length : List ℕ → List ℕ → ℕ
to_text_length image output =
    cond (eqb (read_answer room image) 0) (write_triples_length (read_words room image) output) 0

-- What writing leaves; the bytes as they were if reading is refused.
abbrev pub to_text_bytes : List ℕ → List ℕ → List ℕ
to_text_bytes image output =
    cond (eqb (read_answer room image) 0) (write_triples_bytes (read_words room image) output) output

-- The promise of the call, for all bytes of both.
pub record ToTextPromise (image output : List ℕ) (text : Result ℕ Refusal) (left : List ℕ) : Type 0 where
  pub answer_is : answer_of text ≡ to_text_answer image output
  pub length_is : length_of text ≡ to_text_length image output
  pub bytes_are : left ≡ to_text_bytes image output
