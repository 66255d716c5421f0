-- What turning a text into an image answers and leaves, for all bytes: reading, then writing.
use Rattle.std.specs.Prelude.{ℕ, ◌≡◌, cond, List, eqb, Result, Ok, Err}
use Rattle.rdfs.specs.Numbers.{product}
use Rattle.rdfs.specs.Facts.{Graph, graph}
use Rattle.rdfs.specs.Words.{facts}
use Rattle.writing.specs.WritePromise.{write_answer, write_length, write_bytes}
use Rattle.triples.specs.TextRead.{text_words}
use Rattle.triples.specs.ReadTriples.{read_triples_answer, read_triples_words}
use Rattle.exchange.specs.ToText.{room}
use Rattle.exchange.specs.PlaceTold.{PlaceTold}
use Rattle.table.specs.Refused.{number}
use Rattle.exchange.specs.declared.Rejected.{Rejected}
use Rattle.exchange.specs.declared.Rejected.TheVariants.{Broken, Refused}

-- The refusals of reading the text, then those of writing the words that were read.
abbrev pub to_image_answer : List ℕ → List ℕ → ℕ
to_image_answer text output =
    cond (eqb (read_triples_answer room text) 0) (write_answer (read_triples_words room text) output)
    (read_triples_answer room text)

-- The image's length; 0 on refusal.
abbrev pub to_image_length : List ℕ → List ℕ → ℕ
to_image_length text output =
    cond (eqb (read_triples_answer room text) 0) (write_length (read_triples_words room text) output) 0

-- What writing leaves; the bytes as they were if reading is refused.
abbrev pub to_image_bytes : List ℕ → List ℕ → List ℕ
to_image_bytes text output =
    cond (eqb (read_triples_answer room text) 0) (write_bytes (read_triples_words room text) output) output

-- The graph of the facts that a text gives.
abbrev pub text_graph : List ℕ → Graph
text_graph text = graph (facts product (text_words product text))

-- What the call tells: 0 or its refusal's number; for 3 the place of the broken rule, else 0; the length, 0 on
-- refusal.
abbrev pub imaged_answer : Result ℕ Rejected → ℕ
imaged_answer (Ok length) = 0
imaged_answer (Err (Broken place)) = 3
imaged_answer (Err (Refused refusal)) = number refusal

abbrev pub imaged_place : Result ℕ Rejected → ℕ
imaged_place (Ok length) = 0
imaged_place (Err (Broken place)) = place
imaged_place (Err (Refused refusal)) = 0

abbrev pub imaged_length : Result ℕ Rejected → ℕ
imaged_length (Ok length) = length
imaged_length (Err rejected) = 0

-- The promise of the call, for all bytes of both.
pub record ToImagePromise (text output : List ℕ) (imaged : Result ℕ Rejected) (left : List ℕ) : Type 0 where
  pub answer_is : imaged_answer imaged ≡ to_image_answer text output
  pub place_is : PlaceTold (read_triples_answer room text) (text_graph text) (imaged_place imaged)
  pub length_is : imaged_length imaged ≡ to_image_length text output
  pub bytes_are : left ≡ to_image_bytes text output
