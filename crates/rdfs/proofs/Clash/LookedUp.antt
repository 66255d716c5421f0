-- The domain and the range that are looked up in a consistent table are the property's. Assumes nothing.
use Prim.Native.Nat.{ℕ}
use mathlib.Core.Path.{◌≡◌, refl, subst}
use mathlib.Core.List.{List, [], ◌∷◌}
use Rattle.rdfs.specs.Lists.{◌∈◌, here}
use Rattle.rdfs.specs.Facts.{Fact, pr, dom, rng, second, third, made, graph}
use Rattle.rdfs.specs.Consistency.{Lawful}
use Rattle.rdfs.specs.Demands.{with_a}
use Rattle.rdfs.specs.Lookups.{first_b, domain_of, range_of}
use Rattle.rdfs.proofs.Lists.ListLaws.{none_in}
use Rattle.rdfs.proofs.Words.FactLaws.{from_a, to_a}

-- The domain (k is 7) or the range (k is 8) that is looked up is one of the property's, if it has any.
first_in : (l : List Fact) {f : Fact} → f ∈ l → (g : Fact) × (g ∈ l) × (second g ≡ first_b l)
first_in [] h = absurd (none_in h)
first_in (g ∷ l) h = (g, here refl, refl)

end_in : (K : List Fact) (k p : ℕ) {f : Fact} → f ∈ with_a K k p → (z : ℕ) × (made k p (first_b (with_a K k p)) z ∈ K)
end_in K k p h =
    let g = first_in (with_a K k p) h in
    (third g.0, subst (λ y. made k p y (third g.0) ∈ K) g.2 (from_a K k p g.1))

module _ (K : List Fact) (c : Lawful (graph K)) where
  pub domain_in : (p : ℕ) → pr p ∈ K → dom p (domain_of K p) ∈ K
  domain_in p h = (end_in K 7 p (to_a K (c.rule_15 p h).0.1)).1

  pub range_in : (p : ℕ) → pr p ∈ K → rng p (range_of K p) ∈ K
  range_in p h = (end_in K 8 p (to_a K (c.rule_15 p h).1.1)).1
