-- The clash by lookups as statements on a graph, by kind of ticket, and the tests of them on a list of facts. Assumes nothing.
use Prim.Native.Nat.{ℕ}
use mathlib.Core.Path.{◌≡◌}
use mathlib.Core.Logic.{◌⊎◌}
use mathlib.Core.List.{List}
use Rattle.rdfs.specs.Facts.{Fact, Graph, csub, psub, rng, graph, ◌⊑◌}
use Rattle.rdfs.specs.Clashes.{mixed}
use Rattle.rdfs.specs.Lookups.{
  domain_of,
  range_of,
  backwards,
  cycle_of_two,
  property_clash,
  class_link_clash,
  property_link_clash,
  value_clash,
}
use Rattle.rdfs.specs.Tickets.{property_facts, ticket_of}
use Rattle.rdfs.proofs.Lists.Tests.{Tests, tests_and, tests_or, tests_not, tests_eq, tests_cond}
use Rattle.rdfs.proofs.Words.FactLaws.{tests_has, tests_all_has}
use Rattle.rdfs.proofs.Deletion.Between.{tests_under}
use Rattle.rdfs.proofs.Clash.Hierarchy.{Le}
use Rattle.rdfs.proofs.Clash.OneRole.{OtherRole, tests_other_role}
use Rattle.rdfs.proofs.Clash.SharedValues.{ValueTaken, ValuesShared, tests_taken, tests_shared}

-- a has a role, or the domain b or the range c cannot be a class beside it.
abbrev pub NewPropertyClash : Graph → ℕ → ℕ → ℕ → Type 0
NewPropertyClash G a b c = OtherRole G 0 a ⊎ (OtherRole G 1 b ⊎ (((c ≡ 1 → ⊥) × OtherRole G 1 c) ⊎ ((a ≡ b) ⊎ (a ≡ c))))

abbrev pub PropertyClash : Graph → ℕ → ℕ → ℕ → Type 0
PropertyClash G a b c = (◌⊑◌ (graph (property_facts a b c)) G → ⊥) × NewPropertyClash G a b c

abbrev pub ClassLinkClash : Graph → ℕ → ℕ → Type 0
ClassLinkClash G a b = OtherRole G 1 a ⊎ (OtherRole G 1 b ⊎ ((a ≡ b) ⊎ ((a ≡ 0) ⊎ G (csub b a))))

-- b can't be a value of a by property c.
abbrev pub NoValue : Graph → ℕ → ℕ → ℕ → Type 0
NoValue G a b c = (G (rng c 1) × (OtherRole G 4 b ⊎ (a ≡ b))) ⊎ ((G (rng c 1) → ⊥) × OtherRole G 3 b)

abbrev pub ValueClash : Graph → ℕ → ℕ → ℕ → Type 0
ValueClash G a b c = OtherRole G 3 a ⊎ (NoValue G a b c ⊎ ValueTaken G a b c)

-- Exactly one is the mark.
abbrev pub Mixed : ℕ → ℕ → Type 0
Mixed z w = ((z ≡ 1) × (w ≡ 1 → ⊥)) ⊎ ((z ≡ 1 → ⊥) × (w ≡ 1))

abbrev pub Backwards : Graph → ℕ → ℕ → Type 0
Backwards G x y = (x ≡ y → ⊥) × G (csub y x)

abbrev pub CycleOfTwo : Graph → ℕ → ℕ → ℕ → ℕ → Type 0
CycleOfTwo G x y z w = (x ≡ y → ⊥) × ((z ≡ w → ⊥) × (Le (λ p q. G (csub p q)) y z × Le (λ p q. G (csub p q)) w x))

-- The domains x, y and the ranges z, w of a property and one over it clash.
abbrev pub EndsClash : Graph → ℕ → ℕ → ℕ → ℕ → Type 0
EndsClash G x y z w = Mixed z w ⊎ (Backwards G x y ⊎ (Backwards G z w ⊎ CycleOfTwo G x y z w))

-- With the domains da, db and the ranges ra, rb.
abbrev pub PropertyLinkClash : Graph → ℕ → ℕ → ℕ → ℕ → ℕ → ℕ → Type 0
PropertyLinkClash G a b da db ra rb =
    (a ≡ b) ⊎ (G (psub b a) ⊎ (EndsClash G da db ra rb ⊎ ValuesShared G a b))

module _ (K : List Fact) where
  tests_mixed : (z w : ℕ) → Tests (mixed z w) (Mixed z w)
  tests_mixed z w =
      tests_or (tests_and (tests_eq z 1) (tests_not (tests_eq w 1))) (tests_and (tests_not (tests_eq z 1)) (tests_eq w 1))

  tests_backwards : (x y : ℕ) → Tests (backwards K x y) (Backwards (graph K) x y)
  tests_backwards x y = tests_and (tests_not (tests_eq x y)) (tests_has K (csub y x))

  tests_cycle : (x y z w : ℕ) → Tests (cycle_of_two K x y z w) (CycleOfTwo (graph K) x y z w)
  tests_cycle x y z w = tests_and (tests_not (tests_eq x y)) (tests_and (tests_not (tests_eq z w))
      (tests_and (tests_under K 5 z y) (tests_under K 5 x w)))

  pub tests_property_clash : (o a b c : ℕ) → Tests (property_clash K (ticket_of o 2 a b c)) (PropertyClash (graph K) a b c)
  tests_property_clash o a b c = tests_and (tests_not (tests_all_has K (property_facts a b c)))
      (tests_or (tests_other_role K 0 a) (tests_or (tests_other_role K 1 b)
      (tests_or (tests_and (tests_not (tests_eq c 1)) (tests_other_role K 1 c)) (tests_or (tests_eq a b) (tests_eq a c)))))

  pub tests_class_link_clash : (a b : ℕ) → Tests (class_link_clash K a b) (ClassLinkClash (graph K) a b)
  tests_class_link_clash a b = tests_or (tests_other_role K 1 a) (tests_or (tests_other_role K 1 b)
      (tests_or (tests_eq a b) (tests_or (tests_eq a 0) (tests_has K (csub b a)))))

  pub tests_property_link_clash : (a b : ℕ) → Tests (property_link_clash K a b) (PropertyLinkClash (graph K) a b (domain_of K a)
      (domain_of K b) (range_of K a) (range_of K b))
  tests_property_link_clash a b =
      let da : ℕ = domain_of K a in
      let db : ℕ = domain_of K b in
      let ra : ℕ = range_of K a in
      let rb : ℕ = range_of K b in
      tests_or (tests_eq a b) (tests_or (tests_has K (psub b a)) (tests_or (tests_or (tests_mixed ra rb)
      (tests_or (tests_backwards da db) (tests_or (tests_backwards ra rb) (tests_cycle da db ra rb)))) (tests_shared K a b)))

  pub tests_value_clash : (a b c : ℕ) → Tests (value_clash K a b c) (ValueClash (graph K) a b c)
  tests_value_clash a b c = tests_or (tests_other_role K 3 a)
      (tests_or (tests_cond (tests_has K (rng c 1)) (tests_or (tests_other_role K 4 b) (tests_eq a b)) (tests_other_role K 3 b))
      (tests_taken K a b c))
