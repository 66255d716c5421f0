-- The roles of an id: class, property, individual, literal. In a lawful graph an id has one role at most, and each id that a
-- fact mentions has one, but for the mark. Assumes nothing.
use Prim.Native.Nat.{ℕ}
use mathlib.Core.Path.{subst}
use mathlib.Core.Bool.{Bool}
use mathlib.Core.Logic.{◌⊎◌, inl, inr, ⊎_elim}
use mathlib.Core.List.{List, [], ◌∷◌}
use Rattle.rdfs.specs.Lists.{any}
use Rattle.rdfs.specs.Facts.{Fact, cl, pr, ind, lit, csub, psub, dom, rng, ci, pi, excl, ids, Graph, ◌⊑◌}
use Rattle.rdfs.specs.Consistency.{Lawful}
use Rattle.rdfs.proofs.Lists.Tests.{Tests, tests_or, tests_as, tests_none}

abbrev pub Role : Graph → ℕ → Type 0
Role G x = G (cl x) ⊎ (G (pr x) ⊎ (G (ind x) ⊎ G (lit x)))

-- A part of a lawful graph gives an id no other role.
module _ (G H : Graph) (c : Lawful G) (within : ◌⊑◌ H G) (x : ℕ) where
  pub class_alone : G (cl x) → Role H x → H (cl x)
  class_alone h = ⊎_elim (λ k. k)
      (⊎_elim (λ k. absurd (c.rule_4 x h (within _ k))) (⊎_elim (λ k. absurd (c.rule_5 x h (within _ k)))
      (λ k. absurd ((c.rule_h2 x (within _ k)).0 h))))

  pub property_alone : G (pr x) → Role H x → H (pr x)
  property_alone h = ⊎_elim (λ k. absurd (c.rule_4 x (within _ k) h))
      (⊎_elim (λ k. k) (⊎_elim (λ k. absurd (c.rule_6 x h (within _ k))) (λ k. absurd ((c.rule_h2 x (within _ k)).1 h))))

  pub individual_alone : G (ind x) → Role H x → H (ind x)
  individual_alone h = ⊎_elim (λ k. absurd (c.rule_5 x (within _ k) h))
      (⊎_elim (λ k. absurd (c.rule_6 x (within _ k) h)) (⊎_elim (λ k. k) (λ k. absurd ((c.rule_h2 x (within _ k)).2 h))))

  pub literal_alone : G (lit x) → Role H x → H (lit x)
  literal_alone h =
      let others = c.rule_h2 x h in
      ⊎_elim (λ k. absurd (others.0 (within _ k))) (⊎_elim (λ k. absurd (others.1 (within _ k)))
      (⊎_elim (λ k. absurd (others.2 (within _ k))) (λ k. k)))

-- A member of the list is in S.
abbrev pub AnyOf : (ℕ → Type 0) → List ℕ → Type 0
AnyOf S [] = ⊥
AnyOf S (x ∷ []) = S x
AnyOf S (x ∷ (y ∷ l)) = S x ⊎ AnyOf S (y ∷ l)

-- A fact mentions an id of S.
abbrev pub Mentions : (ℕ → Type 0) → Graph
Mentions S f = AnyOf S (ids f)

pub tests_any_of : (test : ℕ → Bool) (S : ℕ → Type 0) → ((x : ℕ) → Tests (test x) (S x)) → (l : List ℕ)
    → Tests (any test l) (AnyOf S l)
tests_any_of test S t [] = tests_none
tests_any_of test S t (x ∷ []) = tests_as (tests_or (t x) tests_none) (⊎_elim (λ s. s) (λ e. absurd e)) inl
tests_any_of test S t (x ∷ (y ∷ l)) = tests_or (t x) (tests_any_of test S t (y ∷ l))

-- Where no id of S has a role, and the mark is not in S, no fact mentions an id of S.
module _ (H : Graph) (c : Lawful H) (S : ℕ → Type 0) (no_mark : S 1 → ⊥) (no_role : (x : ℕ) → S x → Role H x → ⊥) where
  no_class : (x : ℕ) → H (cl x) → S x → ⊥
  no_class x h s = no_role x s (inl h)

  no_property : (x : ℕ) → H (pr x) → S x → ⊥
  no_property x h s = no_role x s (inr (inl h))

  no_individual : (x : ℕ) → H (ind x) → S x → ⊥
  no_individual x h s = no_role x s (inr (inr (inl h)))

  no_literal : (x : ℕ) → H (lit x) → S x → ⊥
  no_literal x h s = no_role x s (inr (inr (inr h)))

  pub mentions_none : (f : Fact) → H f → Mentions S f → ⊥
  mentions_none (cl a) h = no_class a h
  mentions_none (pr a) h = no_property a h
  mentions_none (ind a) h = no_individual a h
  mentions_none (lit a) h = no_literal a h
  mentions_none (csub a b) h = let q = c.rule_7 a b h in ⊎_elim (no_class a q.0) (no_class b q.1)
  mentions_none (psub a b) h = let q = c.rule_8 a b h in ⊎_elim (no_property a q.0) (no_property b q.1)
  mentions_none (dom a b) h = let q = c.rule_9 a b h in ⊎_elim (no_property a q.0) (no_class b q.1)
  mentions_none (rng a b) h = let q =
      c.rule_10 a b h in ⊎_elim (no_property a q.0) (λ s. no_class b (q.1 (λ e. no_mark (subst S e s))) s)
  mentions_none (ci a b) h = let q = c.rule_11 a b h in ⊎_elim (no_individual a q.0) (no_class b q.1)
  mentions_none (pi a b v) h = let q =
      c.rule_12 a b v h in ⊎_elim (no_individual a q.0) (⊎_elim (⊎_elim (no_individual b) (no_literal b) q.2)
      (no_property v q.1))
  mentions_none (excl a) h = no_property a (c.rule_e1 a h)
