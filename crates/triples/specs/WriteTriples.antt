-- What `write_triples` answers and leaves, for all words of a table and all bytes.
use Rattle.std.specs.Prelude.{ℕ, ◌≡◌, Bool, cond, List, [], ◌∷◌, ◌++◌, eqb, ltb, length, drop, Result, Ok, Err}
use Rattle.rdfs.specs.Numbers.{product}
use Rattle.rdfs.specs.Words.{facts}
use Rattle.rdfs.specs.Refusals.{first_true, table_refusal}
use Rattle.triples.specs.Texts.{text_of}
use Rattle.table.specs.Refused.{answer_of}
use Rattle.table.specs.declared.refusals.Refusal.{Refusal}

-- The text of a table's facts.
abbrev pub table_text : List ℕ → List ℕ
table_text table = text_of (facts product table)

-- 13: an output shorter than the text.
abbrev pub short_for_text : List ℕ → List ℕ → Bool
short_for_text table output = ltb (length output) (length (table_text table))

-- Writing: refusals 1, 2, 3, 13.
abbrev pub write_triples_answer : List ℕ → List ℕ → ℕ
write_triples_answer table output =
    table_refusal product table (first_true ((13, short_for_text table output) ∷ []))

-- The text's length; 0 on refusal.
abbrev pub write_triples_length : List ℕ → List ℕ → ℕ
write_triples_length table output =
    cond (eqb (write_triples_answer table output) 0) (length (table_text table)) 0

-- The text, then the bytes that stood there; on refusal the bytes as they were.
abbrev pub write_triples_bytes : List ℕ → List ℕ → List ℕ
write_triples_bytes table output =
    cond (eqb (write_triples_answer table output) 0)
    (table_text table ++ drop (length (table_text table)) output) output

-- The length that a call answers; 0 on refusal.
abbrev pub length_of : Result ℕ Refusal → ℕ
length_of (Ok length) = length
length_of (Err refusal) = 0

-- The promise of writing, for all words of a table and all bytes of an output.
pub record WriteTriplesPromise (table output : List ℕ) (written : Result ℕ Refusal) (left : List ℕ) : Type 0 where
  pub answer_is : answer_of written ≡ write_triples_answer table output
  pub length_is : length_of written ≡ write_triples_length table output
  pub bytes_are : left ≡ write_triples_bytes table output
