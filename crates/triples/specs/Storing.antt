-- What the steps of reading a text find and leave.
use Rattle.std.specs.Prelude.{ℕ, zero, suc, ◌<◌, ◌≡◌, Bool, false, ◌&&◌, List, [], ◌∷◌, ◌++◌, map, T, length, Option, None, Some}
use Rattle.rdfs.specs.Numbers.{product, arity}
use Rattle.rdfs.specs.Lists.{filter, any}
use Rattle.rdfs.specs.Words.{filled, word, put}
use Rattle.table.specs.Counted.{Counted}
use Rattle.table.specs.Parts.{word_of}
use Rattle.flags.specs.Flags.{flagged, Adds}
use Rattle.triple_form.specs.Lines.{Line}
use Rattle.triples.specs.TextRead.{lines_read}

-- Words put into an ascending list one after another.
abbrev pub put_all : List ℕ → List ℕ → List ℕ
put_all [] l = l
put_all (x ∷ more) l = put_all more (put x l)

-- The new words stand in the table beside those that it had; count is the number of its facts now.
pub record Grown (before : List ℕ) (new after : List ℕ) (count : ℕ) : Type 0 where
  pub counted : Counted after count
  pub size : length after ≡ length before
  pub words_are : filled after ≡ put_all new (filled before)

-- Words stored in a table: all of them, and how many facts it has now, or they have no room.
abbrev pub Stores : List ℕ → List ℕ → List ℕ → Option ℕ → Type 0
Stores before new after (Some count) = Grown before new after count
Stores before new after None =
    (length before < length (put_all new (filled before))) × (length after ≡ length before)

-- n numbers from i on, and the ids.
abbrev pub numbers_from : ℕ → ℕ → List ℕ
numbers_from i zero = []
numbers_from i (suc n) = i ∷ numbers_from (suc i) n

unfoldable pub ids : List ℕ
ids = numbers_from 0 (suc product.top)

-- An id is flagged in both.
abbrev pub common : List Bool → List Bool → ℕ → Bool
common flags others n = flagged flags n && flagged others n

-- The words of a kind with one id, for each of some ids that is flagged.
abbrev pub flagged_from : ℕ → List Bool → List ℕ → List ℕ
flagged_from k flags l = map (λ n. word_of k n 0 0) (filter (flagged flags) l)

-- Flags for facts of a kind with one id; the mark is not flagged.
pub record Flagged (k : ℕ) (flags : List Bool) : Type 0 where
  pub kind : arity k ≡ 1
  pub no_mark : flagged flags 1 ≡ false

-- If each line of a text is inside the profile, flags are added for the ids that its lines have, by a test of
-- an id and a line.
pub record FlagsLines (test : ℕ → Line → Bool) (text : List ℕ) (inside : Bool) (old new : List Bool) : Type 0
  where
    pub adds : T inside → Adds old new (λ n. any (test n) (lines_read product.top text))

-- The words of the lines of a text.
abbrev pub line_words : List ℕ → List ℕ
line_words text = map (λ x. word product.base x.fact) (lines_read product.top text)

abbrev pub text_puts : List Bool → List Bool → List ℕ → List ℕ
text_puts members literals text = flagged_from 3 members ids ++ (flagged_from 4 literals ids ++ line_words text)
