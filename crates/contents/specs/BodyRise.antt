-- What a walk over the facts of one body answers.
use Rattle.std.specs.Prelude.{ℕ, suc, ◌≡◌, Bool, false, List, ◌++◌, Option, Some, None}
use Rattle.rdfs.specs.Numbers.{product}
use Rattle.rdfs.specs.Words.{laid_out}

-- Whether words above the last that the walk came to are laid out; if it broke off, nothing is.
abbrev pub laid_after : Option ℕ → List ℕ → Bool
laid_after (Some word) rest = laid_out product (suc word) rest
laid_after None rest = false

-- Words after `last`, then others: they are laid out if the others are, after the last of the words.
abbrev pub RisesTo : ℕ → List ℕ → List ℕ → Option ℕ → Type 0
RisesTo last l rest rise = laid_out product (suc last) (l ++ rest) ≡ laid_after rise rest
