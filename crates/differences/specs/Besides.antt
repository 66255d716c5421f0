-- The words of one ascending list that another lacks, found one after the other.
use Rattle.std.specs.Prelude.{ℕ, suc, ◌<◌, ◌≡◌, List, ◌∷◌, T, length, get_or, drop}
use Rattle.rdfs.specs.Numbers.{product}
use Rattle.rdfs.specs.Lists.{Ascending}
use Rattle.rdfs.specs.Words.{laid_out, filled}
use Rattle.rdfs.specs.Register.{newcomers}
use Rattle.differences.specs.declared.besides.Next.{Next}

-- Two ascending lists, and a place in each; from there on the first has a word that the second lacks.
pub record Apart (words others : List ℕ) (place past : ℕ) : Type 0 where
  pub ascending : Ascending words
  pub others_ascending : Ascending others
  pub some : 0 < length (newcomers (drop past others) (drop place words))

-- The first such word, and where to look for the next.
pub record NextBeside (words others : List ℕ) (place past : ℕ) (next : Next) : Type 0 where
  pub within : next.place < length words
  pub first : newcomers (drop past others) (drop place words)
      ≡ get_or words next.place 0 ∷ newcomers (drop next.past others) (drop (suc next.place) words)

-- Two ascending lists, and a run of as many words as the first has beside the second.
pub record Measured (words others run : List ℕ) : Type 0 where
  pub ascending : Ascending words
  pub others_ascending : Ascending others
  pub size : length run ≡ length (newcomers others words)

-- The words of a table that another lacks.
abbrev pub missing : (table other : List ℕ) → List ℕ
missing table other = newcomers (filled other) (filled table)

-- Two tables that are laid out, and how many these words are.
pub record Missing (table other : List ℕ) (size : ℕ) : Type 0 where
  pub laid : T (laid_out product 1 table)
  pub other_laid : T (laid_out product 1 other)
  pub many : size ≡ length (missing table other)
