-- What program two prints for an image: a line for each fact.
use Rattle.std.specs.Prelude.{ℕ, ◌+◌, ◌*◌, ◌≤◌, ◌<◌, ◌≡◌, cond, List, [], ◌∷◌, ◌++◌, eqb, length, take, replicate}
use Rattle.rdfs.specs.Numbers.{product}
use Rattle.contents.specs.ImageForm.{form, largest_fact, first_body}
use Rattle.reading.specs.ReadPromise.{image_words, read_answer}
use Rattle.text.specs.Text.{Number}
use Rattle.streams.specs.Input.{Begins}

-- The lines of words in turn: each in decimal, then a newline.
abbrev pub WordLines : List ℕ → List ℕ → Type 0
WordLines [] text = text ≡ []
WordLines (w ∷ l) text = (first rest : List ℕ) × Number w 10 first × WordLines l rest × (text ≡ first ++ rest)

-- The lines of the words l stand at the start of a buffer, up to r.
pub record WordsPrinted (l : List ℕ) (r : ℕ) (out : List ℕ) : Type 0 where
  pub lines : WordLines l (take r out)
  pub within : r ≤ length out

-- The facts of an image, as words; none if reading it into a table of the most words is refused.
abbrev pub words_read : List ℕ → List ℕ
words_read image = cond (eqb (read_answer (replicate product.most 0) image) 0) (image_words image) []

-- What stands in the buffer from its start up to r is what program two prints, whatever image the n bytes
-- read begin.
abbrev pub FactsPrinted : List ℕ → ℕ → ℕ → List ℕ → Type 0
FactsPrinted buffer n r out = (image : List ℕ) → Begins n buffer image → WordsPrinted (words_read image) r out

-- What is lent: n bytes were read into a buffer longer than any image, and there is room for the lines of any
-- table.
pub record ImageLent (n : ℕ) (buffer out : List ℕ) : Type 0 where
  pub within : n ≤ length buffer
  pub longer : first_body form + largest_fact form * product.most < length buffer
  pub room : 11 * product.most ≤ length out
