-- What the host's calls on texts answer and leave in the output, for all bytes.
use Rattle.std.specs.Prelude.{ℕ, ◌≡◌, List}
use Rattle.exchange.specs.ToText.{room, to_text_answer, to_text_length, to_text_bytes}
use Rattle.triples.specs.ReadTriples.{read_triples_answer}
use Rattle.exchange.specs.PlaceTold.{PlaceTold}
use Rattle.exchange.specs.ToImage.{text_graph, to_image_answer, to_image_length, to_image_bytes}
use Rattle.packing.specs.Packed.{packed, packed_text}

-- The promise of turning an image into a text, for all bytes of both: the number, and the bytes left.
pub record HostWriteTriplesPromise (image output : List ℕ) (number : ℕ) (left : List ℕ) : Type 0 where
  pub number_is : number ≡ packed_text (to_text_answer image output) (to_text_length image output)
  pub bytes_are : left ≡ to_text_bytes image output

-- The promise of turning a text into an image: the number has the place of the broken rule too.
pub record HostReadTriplesPromise (text output : List ℕ) (number : ℕ) (left : List ℕ) : Type 0 where
  pub place : ℕ
  pub number_is : number ≡ packed (to_image_answer text output) place 0 (to_image_length text output)
  pub rule : PlaceTold (read_triples_answer room text) (text_graph text) place
  pub bytes_are : left ≡ to_image_bytes text output
