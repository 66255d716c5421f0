-- What a call across the C interface answers, packed into one number.
use Rattle.std.specs.Prelude.{ℕ, ◌+◌, ◌*◌, ◌/◌, ◌%◌, cond, eqb, Result, Ok, Err}
use Rattle.table.specs.declared.refusals.Refusal.{Refusal}
use Rattle.table.specs.Refused.{number}
use Rattle.packing.specs.declared.Told.{Told}

-- The values of a number of 16 bits.
abbrev pub sixteen_bits : ℕ
sixteen_bits = 65536

-- Four numbers of 16 bits each, lowest first.
abbrev pub packed : ℕ → ℕ → ℕ → ℕ → ℕ
packed answer added removed length =
    answer + sixteen_bits * (added + sixteen_bits * (removed + sixteen_bits * length))

-- What a call tells after 0; a refusal with the other three 0.
abbrev pub packed_outcome : Result Told Refusal → ℕ
packed_outcome (Ok told) = packed 0 told.second told.third told.fourth
packed_outcome (Err refusal) = packed (number refusal) 0 0 0

-- The answer, the facts added, the facts removed and the image's length in such a number.
abbrev pub answer_in : ℕ → ℕ
answer_in number = number % sixteen_bits

abbrev pub added_in : ℕ → ℕ
added_in number = number / sixteen_bits % sixteen_bits

abbrev pub removed_in : ℕ → ℕ
removed_in number = number / sixteen_bits / sixteen_bits % sixteen_bits

abbrev pub length_in : ℕ → ℕ
length_in number = number / sixteen_bits / sixteen_bits / sixteen_bits

-- A refusal with the other three 0; for 0, what comes after.
abbrev pub refused_else : ℕ → ℕ → ℕ
refused_else refusal rest = cond (eqb refusal 0) rest (packed refusal 0 0 0)

-- An answer of 16 bits, and a text's length in the bits above; the length in such a number.
abbrev pub packed_text : ℕ → ℕ → ℕ
packed_text answer length = answer + sixteen_bits * length

abbrev pub text_length_in : ℕ → ℕ
text_length_in number = number / sixteen_bits
