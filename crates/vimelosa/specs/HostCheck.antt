-- What the host's check answers of an image, for all bytes: the answer of reading, and the rule for 3.
use Rattle.std.specs.Prelude.{ℕ, ◌<◌, ◌≡◌, ◌⊎◌, List}
use Rattle.rdfs.specs.Numbers.{product}
use Rattle.rdfs.specs.Facts.{Graph, graph}
use Rattle.rdfs.specs.Words.{facts}
use Rattle.reading.specs.ReadPromise.{image_words, read_answer}
use Rattle.exchange.specs.ToText.{room}
use Rattle.exchange.specs.PlaceTold.{PlaceTold}
use Rattle.packing.specs.Packed.{packed, answer_in, added_in}

-- The graph of the facts that an image holds.
abbrev pub image_graph : List ℕ → Graph
image_graph image = graph (facts product (image_words image))

-- The place in the call's number: its second 16 bits.
abbrev pub place_in : ℕ → ℕ
place_in number = added_in number

-- A check with this number got past a place, counted from 1: all rules are met, or the one it names stands
-- after that place.
abbrev pub CheckedPast : ℕ → ℕ → Type 0
CheckedPast number place = (answer_in number ≡ 0) ⊎ (place < place_in number)

-- The promise of the call, for all bytes of an image: its number is the answer of reading and the place.
pub record HostCheckPromise (image : List ℕ) (answer : ℕ) : Type 0 where
  pub place : ℕ
  pub number : answer ≡ packed (read_answer room image) place 0 0
  pub rule : PlaceTold (read_answer room image) (image_graph image) place
