-- Images of the table that P1 to P7 of document 01 leave, computed on the definitions; malformed ones. Assumes nothing.
use Prim.Native.Nat.{ℕ}
use mathlib.Core.Path.{◌≡◌, refl}
use mathlib.Core.Bool.{true, false}
use mathlib.Core.List.{List, [], ◌∷◌, ◌++◌}
use lib.ListN.{set}
use Rattle.rdfs.specs.Numbers.{product}
use Rattle.contents.specs.ImageForm.{form, ten_form, image_form}
use Rattle.contents.specs.Image.{image_of}
use Rattle.contents.specs.Reading.{words_of, malformed, body_start, body_size}

abbrev words : List ℕ
words =
    0x01000000 ∷ 0x01020000 ∷ 0x01030000 ∷ 0x02050000 ∷ 0x03040000 ∷ 0x03060000 ∷ 0x04070000 ∷ 0x05020000 ∷ 0x05030000 ∷
    0x05030200
    ∷ 0x07050200 ∷ 0x08050100 ∷ 0x09040000 ∷ 0x09060000 ∷ 0x09060200 ∷ 0x0a060705 ∷ []

-- The bodies of kinds 1 to 10.
abbrev ten_bodies : List ℕ
ten_bodies =
    0 ∷ 2 ∷ 3
    ∷ 5
    ∷ 4 ∷ 6
    ∷ 7
    ∷ 2 ∷ 0 ∷ 3 ∷ 0 ∷ 3 ∷ 2
    ∷ 5 ∷ 2
    ∷ 5 ∷ 1
    ∷ 4 ∷ 0 ∷ 6 ∷ 0 ∷ 6 ∷ 2
    ∷ 6 ∷ 7 ∷ 5 ∷ []

-- The contents with eleven entries, the last of so many facts.
abbrev eleven_entries : ℕ → List ℕ
eleven_entries count =
    1 ∷ 11
    ∷ 1 ∷ 1 ∷ 68 ∷ 0 ∷ 3 ∷ 0
    ∷ 2 ∷ 1 ∷ 71 ∷ 0 ∷ 1 ∷ 0
    ∷ 3 ∷ 1 ∷ 72 ∷ 0 ∷ 2 ∷ 0
    ∷ 4 ∷ 1 ∷ 74 ∷ 0 ∷ 1 ∷ 0
    ∷ 5 ∷ 2 ∷ 75 ∷ 0 ∷ 3 ∷ 0
    ∷ 6 ∷ 2 ∷ 81 ∷ 0 ∷ 0 ∷ 0
    ∷ 7 ∷ 2 ∷ 81 ∷ 0 ∷ 1 ∷ 0
    ∷ 8 ∷ 2 ∷ 83 ∷ 0 ∷ 1 ∷ 0
    ∷ 9 ∷ 2 ∷ 85 ∷ 0 ∷ 3 ∷ 0
    ∷ 10 ∷ 3 ∷ 91 ∷ 0 ∷ 1 ∷ 0
    ∷ 11 ∷ 1 ∷ 94 ∷ 0 ∷ count ∷ 0 ∷ []

abbrev ten_entries : List ℕ
ten_entries =
    1 ∷ 10
    ∷ 1 ∷ 1 ∷ 62 ∷ 0 ∷ 3 ∷ 0
    ∷ 2 ∷ 1 ∷ 65 ∷ 0 ∷ 1 ∷ 0
    ∷ 3 ∷ 1 ∷ 66 ∷ 0 ∷ 2 ∷ 0
    ∷ 4 ∷ 1 ∷ 68 ∷ 0 ∷ 1 ∷ 0
    ∷ 5 ∷ 2 ∷ 69 ∷ 0 ∷ 3 ∷ 0
    ∷ 6 ∷ 2 ∷ 75 ∷ 0 ∷ 0 ∷ 0
    ∷ 7 ∷ 2 ∷ 75 ∷ 0 ∷ 1 ∷ 0
    ∷ 8 ∷ 2 ∷ 77 ∷ 0 ∷ 1 ∷ 0
    ∷ 9 ∷ 2 ∷ 79 ∷ 0 ∷ 3 ∷ 0
    ∷ 10 ∷ 3 ∷ 85 ∷ 0 ∷ 1 ∷ 0 ∷ []

-- The table's image, that of the table with property 5 exclusive, and the table's with ten entries.
abbrev image : List ℕ
image = eleven_entries 0 ++ ten_bodies

abbrev exclusive : List ℕ
exclusive = eleven_entries 1 ++ ten_bodies ++ (5 ∷ [])

abbrev ten_image : List ℕ
ten_image = ten_entries ++ ten_bodies

pub written : (image_of product form words ≡ image) × (image_of product form (words ++ (0x0b050000 ∷ [])) ≡ exclusive)
    × (image_of product ten_form words ≡ ten_image)
unfolding image_of
written = (refl, refl, refl)

-- What bytes are read as, and whether they are malformed, in the form that they give.
abbrev Read : List ℕ → List ℕ → Type 0
Read bytes l = (words_of product (image_form bytes) bytes ≡ l) × (malformed product (image_form bytes) bytes ≡ false)

pub read : Read image words × Read exclusive (words ++ (0x0b050000 ∷ [])) × Read ten_image words
unfolding image_form image_of words_of malformed
read = ((refl, refl), (refl, refl), (refl, refl))

-- Where the body of a kind lies, and how long it is.
abbrev Lies : List ℕ → ℕ → ℕ → ℕ → Type 0
Lies bytes k start size =
    (body_start product (image_form bytes) bytes k ≡ start) × (body_size product (image_form bytes) bytes k ≡ size)

-- The bodies of kinds 1, 6 (empty), 10, 11 and of no kind.
pub bodies : Lies image 1 68 3 × Lies image 6 81 0 × Lies image 10 91 3 × Lies image 11 94 0 × Lies image 0 94 0
    × Lies image 12 94 0 × Lies exclusive 11 94 1 × Lies exclusive 12 95 0
    × Lies ten_image 1 62 3 × Lies ten_image 10 85 3 × Lies ten_image 11 88 0
unfolding image_form image_of words_of malformed
bodies = (
  (refl, refl),
  (refl, refl),
  (refl, refl),
  (refl, refl),
  (refl, refl),
  (refl, refl),
  (refl, refl),
  (refl, refl),
  (refl, refl),
  (refl, refl),
  (refl, refl),
)

abbrev Refused : List ℕ → Type 0
Refused bytes = malformed product (image_form bytes) bytes ≡ true

-- A byte after the image; no byte; the start of the empty body of kind 6; facts not ascending; id 1 as a class; another edition;
-- a fact of kind 11 behind ten entries; the contents of one form with the number of the other.
pub refused : Refused (image ++ (0 ∷ [])) × Refused [] × Refused (set image 34 80) × Refused (set image 69 0)
    × Refused (set image 69 1) × Refused (set image 0 2) × Refused (ten_image ++ (5 ∷ []))
    × Refused (set ten_image 1 11) × Refused (set image 1 10)
unfolding image_form image_of words_of malformed
refused = (refl, refl, refl, refl, refl, refl, refl, refl, refl)
