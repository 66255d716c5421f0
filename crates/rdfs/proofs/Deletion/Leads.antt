-- A property leads to its domain and to its range. What the rules say of both, but for the mark, is said once. Assumes nothing.
use Prim.Native.Nat.{ℕ}
use mathlib.Core.Path.{◌≡◌, refl, sym, subst}
use mathlib.Core.Bool.{Bool}
use mathlib.Core.List.{List}
use Rattle.rdfs.specs.Lists.{◌∈◌}
use Rattle.rdfs.specs.Facts.{Fact, cl, pr, csub, psub, dom, rng, second, Graph, graph}
use Rattle.rdfs.specs.Consistency.{Lawful}
use Rattle.rdfs.specs.Demands.{with_a}
use Rattle.rdfs.specs.Deletion.{leads}
use Rattle.rdfs.proofs.Lists.Tests.{Tests, tests_as}
use Rattle.rdfs.proofs.Words.FactLaws.{from_a, to_a, tests_any}

abbrev pub Domain : Graph → ℕ → ℕ → Type 0
Domain G p y = G (dom p y)

abbrev pub Range : Graph → ℕ → ℕ → Type 0
Range G p y = G (rng p y)

-- Rules 15, 16 and 22 for the domain; 15, 17, 23 and H4 for the range.
pub record Leading (G : Graph) (R : ℕ → ℕ → Type 0) : Type 0 where
  pub some : (p : ℕ) → G (pr p) → (y : ℕ) × R p y
  pub one : (p y z : ℕ) → R p y → R p z → y ≡ z
  pub plain : (p q y z : ℕ) → G (psub p q) → R p y → R q z → (z ≡ 1 → ⊥) → y ≡ 1 → ⊥
  pub link : (p q y z : ℕ) → G (psub p q) → R p y → R q z → (z ≡ 1 → ⊥) → (y ≡ z → ⊥) → G (csub y z)

-- The mark is no class.
pub domain_leading : (G : Graph) → Lawful G → (G (cl 1) → ⊥) → Leading G (Domain G)
domain_leading G c mark = record {
  some = λ p h. (c.rule_15 p h).0;
  one = c.rule_16;
  plain = λ p q y z s d _ _ e. mark (subst (λ x. G (cl x)) e (c.rule_9 p y d).1);
  link = λ p q y z s d k _ n. c.rule_22 p q y z s d k n;
}

pub range_leading : (G : Graph) → Lawful G → Leading G (Range G)
range_leading G c =
    let plain : (p q y z : ℕ) → G (psub p q) → G (rng p y) → G (rng q z) → (z ≡ 1 → ⊥) → y ≡ 1 → ⊥ =
    λ p q y z s r k n e. n ((c.rule_h4 p q y z s r k).0 e) in
    record {
      some = λ p h. (c.rule_15 p h).1;
      one = c.rule_17;
      plain = plain;
      link = λ p q y z s r k n m. c.rule_23 p q y z s r k m (plain p q y z s r k n) n;
    }

-- A part that has the property has what it leads to.
pub leading_kept : (G : Graph) (R : ℕ → ℕ → Type 0) (H : Graph) (Q : ℕ → ℕ → Type 0) → Leading G R → Leading H Q
    → ((p y : ℕ) → Q p y → R p y)
    → (p y : ℕ) → H (pr p) → R p y → Q p y
leading_kept G R H Q g l within p y h r = let q = l.some p h in subst (Q p) (g.one p q.0 y (within p q.0 q.1) r) q.1

-- What the property leads to is in P.
abbrev pub LeadsTo : (ℕ → ℕ → Type 0) → (ℕ → Type 0) → ℕ → Type 0
LeadsTo R P p = (y : ℕ) × R p y × P y

-- The register's test, for kind k of the facts `to p y`.
module _ (K : List Fact) (k : ℕ) (to : ℕ → ℕ → Fact) (p : ℕ) (from-with : (f : Fact) → f ∈ with_a K k p → to p (second f) ∈ K)
    (to-with : (y : ℕ) → to p y ∈ K → to p y ∈ with_a K k p) (to-second : (y : ℕ) → second (to p y) ≡ y) (test : ℕ → Bool) (P : ℕ
    → Type 0) (tests : (y : ℕ) → Tests (test y) (P y)) where
  tests_leads : Tests (leads K k p test) (LeadsTo (λ p y. to p y ∈ K) P p)
  tests_leads = tests_as (tests_any (λ f. test (second f)) (λ f. P (second f)) (with_a K k p) (λ f. tests (second f)))
      (λ r. (second r.0, from-with r.0 r.1, r.2))
      (λ r. (to p r.0, to-with r.0 r.1, subst P (sym (to-second r.0)) r.2))

module _ (K : List Fact) (p : ℕ) where
  pub tests_leads_domain : (test : ℕ → Bool) (P : ℕ → Type 0) → ((y : ℕ) → Tests (test y) (P y))
      → Tests (leads K 7 p test) (LeadsTo (Domain (graph K)) P p)
  tests_leads_domain = tests_leads K 7 dom p (λ f h. from_a K 7 p h) (λ y h. to_a K h) (λ y. refl)

  pub tests_leads_range : (test : ℕ → Bool) (P : ℕ → Type 0) → ((y : ℕ) → Tests (test y) (P y))
      → Tests (leads K 8 p test) (LeadsTo (Range (graph K)) P p)
  tests_leads_range = tests_leads K 8 rng p (λ f h. from_a K 8 p h) (λ y h. to_a K h) (λ y. refl)
