-- What `write` answers and leaves, for all words of a table and all bytes.
use Rattle.std.specs.Prelude.{ℕ, ◌≡◌, Bool, cond, Result, Ok, Err, List, [], ◌∷◌, ◌++◌, eqb, ltb, length, drop}
use Rattle.rdfs.specs.Numbers.{product}
use Rattle.rdfs.specs.Words.{filled}
use Rattle.rdfs.specs.Refusals.{first_true, table_refusal}
use Rattle.table.specs.declared.refusals.Refusal.{Refusal}
use Rattle.table.specs.Refused.{answer_of}
use Rattle.contents.specs.ImageForm.{form}
use Rattle.contents.specs.Image.{image_of}

-- The image of a table's facts.
abbrev pub table_image : List ℕ → List ℕ
table_image table = image_of product form (filled table)

-- 13: an output shorter than the image.
abbrev pub short_output : List ℕ → List ℕ → Bool
short_output table output = ltb (length output) (length (table_image table))

-- Writing: refusals 1, 2, 3, 13.
abbrev pub write_answer : List ℕ → List ℕ → ℕ
write_answer table output = table_refusal product table (first_true ((13, short_output table output) ∷ []))

-- The image's length; 0 on refusal.
abbrev pub write_length : List ℕ → List ℕ → ℕ
write_length table output = cond (eqb (write_answer table output) 0) (length (table_image table)) 0

-- The image, then the bytes that stood there; on refusal the bytes as they were.
abbrev pub write_bytes : List ℕ → List ℕ → List ℕ
write_bytes table output =
    cond (eqb (write_answer table output) 0) (table_image table ++ drop (length (table_image table)) output)
    output

-- The length that a call answers; 0 on refusal.
abbrev pub length_of : Result ℕ Refusal → ℕ
length_of (Ok size) = size
length_of (Err _) = 0

-- The promise of writing, for all words of a table and all bytes of an output: its answer, and the bytes
-- left.
abbrev pub WritePromise : List ℕ → List ℕ → Result ℕ Refusal → List ℕ → Type 0
WritePromise table output written left =
    (answer_of written ≡ write_answer table output) × (length_of written ≡ write_length table output)
    × (left ≡ write_bytes table output)
