-- The b of the first fact of a kind with an id as a, from its word. Assumes nothing.
use Prim.Native.Nat.{ℕ}
use mathlib.Core.Path.{◌≡◌, refl, sym}
use mathlib.Core.Bool.{◌&&◌}
use mathlib.Core.List.{List, [], ◌∷◌}
use native.Mathlib.Omega.{arith}
use lib.Dec.{eqb}
use Rattle.std.specs.Prelude.{Some}
use Rattle.std.proofs.lemmas.Option.{none-some, same_Some}
use Rattle.rdfs.specs.Numbers.{product}
use Rattle.rdfs.specs.Lists.{◌∈◌, here}
use Rattle.rdfs.specs.Facts.{Fact, kind, first}
use Rattle.rdfs.specs.Words.{word as fact_word}
use Rattle.rdfs.specs.Demands.{with_a}
use Rattle.rdfs.specs.Lookups.{first_b}
use Rattle.rdfs.proofs.Lists.ListLaws.{in_filter}
use Rattle.rdfs.proofs.Words.Allowed.{Allowed, fields}
use Rattle.rdfs.proofs.Words.LaidOut.{laid_allowed}
use Rattle.table.specs.Parts.{second_of}
use Rattle.table.specs.Counted.{Full, facts_of}
use Rattle.clash.specs.Looked.{first_word}

-- The b of the first of some facts, from its word.
second_first : (l : List Fact) → ((f : Fact) → f ∈ l → Allowed product.top f) → (word : ℕ) → Some word ≡ first_word l
    → second_of word ≡ first_b l
second_first [] h word e = absurd (none-some word (sym e))
second_first (f ∷ l) h word e =
    let b = fields product.top f (h f (here refl)) in
    omega (arith, same_Some word (fact_word product.base f) e, b.one, b.two, b.three)

pub first_b_of : (t : List ℕ) (k p : ℕ) → Full t → (word : ℕ) → Some word ≡ first_word (with_a (facts_of t) k p)
    → second_of word ≡ first_b (with_a (facts_of t) k p)
first_b_of t k p q =
    second_first (with_a (facts_of t) k p) (λ f m. laid_allowed product t q.laid f
    (in_filter (λ g. eqb (kind g) k && eqb (first g) p) (facts_of t) m).0)
