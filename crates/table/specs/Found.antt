-- What a search among ascending words answers.
use Rattle.std.specs.Prelude.{ℕ, Bool, true, false, List, ltb, Result, Ok, Err}
use Rattle.rdfs.specs.Lists.{member, count}

-- How many words are below a word.
abbrev pub below : List ℕ → ℕ → ℕ
below words word = count (λ x. ltb x word) words

-- The place of a word: as many words stand before it as are below it. If it is not there, it would go to that
-- place.
abbrev pub found_as : Bool → ℕ → Result ℕ ℕ
found_as true place = Ok place
found_as false place = Err place

abbrev pub found : List ℕ → ℕ → Result ℕ ℕ
found words word = found_as (member words word) (below words word)
