-- What the public calls answer and leave, for all words of a table.
use Rattle.std.specs.Prelude.{ℕ, Bool, false, Result, Ok, Err, not, ◌&&◌, cond, List, length}
use Rattle.rdfs.specs.Numbers.{product}
use Rattle.rdfs.specs.Lists.{member}
use Rattle.rdfs.specs.Words.{filled, fresh}
use Rattle.table.specs.declared.refusals.Refusal.{Refusal}
use Rattle.rdfs.specs.Refusals.{or_else, bad_size, bad_layout, layout_refusal}

-- Fresh: refusal 1.
abbrev pub fresh_answer : List ℕ → ℕ
fresh_answer table = or_else (bad_size product table) 1 0

-- Cl(0), then zeros; refused, the words as they were.
abbrev pub fresh_words : List ℕ → List ℕ
fresh_words table = cond (bad_size product table) table (fresh product (length table))

-- Lookup: refusals 1, 2.
abbrev pub lookup_answer : List ℕ → ℕ
lookup_answer table = layout_refusal product table 0

-- Whether a lookup says that the word is there; refused, it does not.
abbrev pub present : Result Bool Refusal → Bool
present (Ok there) = there
present (Err _) = false

-- Whether a word is among the facts of a table; refused, no.
abbrev pub lookup_present : List ℕ → ℕ → Bool
lookup_present table word =
    not (bad_size product table) && (not (bad_layout product table) && member (filled table) word)
