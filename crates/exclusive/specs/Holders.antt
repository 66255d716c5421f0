-- Who holds which value: an individual, or nobody, for each id.
use Rattle.std.specs.Prelude.{ℕ, ◌<◌, ◌≡◌, Bool, true, false, List, Option, Some, None, T, length, get_or}
use Rattle.rdfs.specs.Numbers.{product}
use Rattle.rdfs.specs.Lists.{◌∈◌}
use Rattle.rdfs.specs.Facts.{Fact, pi}
use Rattle.rdfs.specs.Clashes.{two_holders}
use Rattle.flags.specs.Flags.{flagged}

abbrev pub holder : List (Option ℕ) → ℕ → Option ℕ
holder holders y = get_or holders y None

-- The holder is somebody, and not x.
abbrev pub Other : Option ℕ → ℕ → Type 0
Other None x = ⊥
Other (Some held) x = held ≡ x → ⊥

-- The holders are those of a relation, which gives a value no two.
pub record Holders (holders : List (Option ℕ)) (Holds : ℕ → ℕ → Type 0) : Type 0 where
  pub sound : (x y : ℕ) → holder holders y ≡ Some x → Holds x y
  pub complete : (x y : ℕ) → Holds x y → holder holders y ≡ Some x

-- A place for each id, and nobody there.
pub record Unheld (holders : List (Option ℕ)) : Type 0 where
  pub whole : product.top < length holders
  pub none : Holders holders (λ x y. ⊥)

-- The answer is whether a value of p has two holders; if none has, the holders are those of the values of p.
pub record Filled (answer : Bool) (K : List Fact) (p : ℕ) (holders : List (Option ℕ)) : Type 0 where
  pub two : answer ≡ true → T (two_holders K p)
  pub one : answer ≡ false → Holders holders (λ x y. pi x y p ∈ K)

-- A value through a flagged property has another holder than the fact's individual.
pub record HeldOtherwise (K : List Fact) (flags : List Bool) (holders : List (Option ℕ)) : Type 0 where
  pub who : ℕ
  pub value : ℕ
  pub through : ℕ
  pub stands : pi who value through ∈ K
  pub watched : T (flagged flags through)
  pub other : Other (holder holders value) who
