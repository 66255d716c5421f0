-- What program one prints for its whole input, and the turns in which it reads the input and writes the text.
use Rattle.std.specs.Prelude.{ℕ, ◌+◌, ◌*◌, ◌/◌, ◌%◌, ◌≤◌, ◌<◌, ◌≡◌, Bool, true, false, Option, None, Some, List, [], ◌∷◌, ◌++◌, length, take}
use Rattle.rdfs.specs.Numbers.{product, record_length}
use Rattle.rdfs.specs.Lists.{concat_map}
use Rattle.rdfs.specs.Words.{filled, fresh}
use Rattle.rdfs.specs.Register.{run, cut, Table}
use Rattle.text.specs.Text.{Number}
use Rattle.report.specs.Lines.{Lines}
use Rattle.report.specs.declared.turns.Turned.{Turned}
use Rattle.report.specs.declared.turns.Turned.TheVariants.{More, Last}

-- The words at the start: a fresh table of the most words.
abbrev pub start : List ℕ
start = fresh product product.most

-- What program one prints for an input: the lines of its tickets, then the line of the count of facts that
-- they leave.
abbrev pub Output : List ℕ → List ℕ → Type 0
Output input text =
    (lines count : List ℕ)
    × Lines start (cut record_length input) lines
    × Number (length (filled (run product start (cut record_length input)).table)) 10 count
    × (text ≡ lines ++ count)

-- A turn: the bytes that it reads, and the text that it writes.
pub record Turn : Type 0 where
  pub read : List ℕ
  pub text : List ℕ

-- On the words of a table it writes the lines of its tickets, and leaves these words.
pub record Runs (table left : List ℕ) (turn : Turn) : Type 0 where
  pub lines : Lines table (cut record_length turn.read) turn.text
  pub words : left ≡ (run product table (cut record_length turn.read)).table

-- Turns one after another, each on the words that the one before left, each with a full chunk of `size`
-- bytes.
abbrev pub FullTurns : ℕ → List ℕ → List Turn → List ℕ → Type 0
FullTurns size table [] left = left ≡ table
FullTurns size table (turn ∷ l) left =
    (next : List ℕ) × (length turn.read ≡ size) × Runs table next turn × FullTurns size next l left

-- All turns of a run on a table, and the words that it leaves: full ones, which lead to the words `reached`,
-- then the last, whose chunk is not full.
pub record AllTurns (size : ℕ) (table left : List ℕ) (full : List Turn) (last : Turn) : Type 0 where
  pub reached : List ℕ
  pub before : FullTurns size table full reached
  pub ended : length last.read < size
  pub runs : Runs reached left last

-- What they read, and what they write, one after another.
abbrev pub read_by : List Turn → Turn → List ℕ
read_by full last = concat_map (λ turn. turn.read) full ++ last.read

abbrev pub written_by : List Turn → Turn → List ℕ
written_by full last = concat_map (λ turn. turn.text) full ++ last.text

-- The length of a chunk, which holds whole tickets, and of the text's buffer, which has room for a line of 18
-- bytes for each.
pub record Sized (chunk out : ℕ) : Type 0 where
  pub whole : chunk % record_length ≡ 0
  pub room : 18 * (chunk / record_length + 1) ≤ out

-- What is lent to a turn: a consistent table, a chunk and room for its lines.
pub record Lent (words bytes out : List ℕ) : Type 0 where
  pub table : Table product words
  pub sized : Sized (length bytes) (length out)

-- What a turn shows of itself in the chunk and in the text's buffer, by its answer. A turn whose read or write
-- failed is the end.
abbrev pub Shows : Option Turned → (table bytes left out : List ℕ) → Type 0
Shows (Some More) table bytes left out =
    (end : ℕ) × Runs table left (record { read = bytes; text = take end out })
Shows (Some (Last count)) table bytes left out =
    (end : ℕ) × (count < length bytes)
    × Runs table left (record { read = take count bytes; text = take end out })
Shows None table bytes left out = Unit {0}

-- If the turns went on to the end of the input, they are all its turns.
abbrev pub Ran : Bool → ℕ → List ℕ → List ℕ → Type 0
Ran true size table left = (full : List Turn) × (last : Turn) × AllTurns size table left full last
Ran false size table left = Unit {0}

-- A whole run on a fresh table: its turns, and that they and the count's line write what is printed for the
-- input.
pub record Complete (size : ℕ) (left count : List ℕ) : Type 0 where
  pub full : List Turn
  pub last : Turn
  pub turns : AllTurns size start left full last
  pub output : Output (read_by full last) (written_by full last ++ count)

-- By the length r of the count's line, which stands at the start of `out`: None if the run is not whole.
abbrev pub Finishes : Option ℕ → ℕ → List ℕ → List ℕ → Type 0
Finishes (Some r) size left out = Complete size left (take r out)
Finishes None size left out = Unit {0}
