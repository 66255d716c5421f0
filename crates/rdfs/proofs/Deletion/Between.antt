-- Links of one kind are a strict order: what is under an id, what lies between two, and what goes with the link from one to the
-- other. Assumes nothing.
use Prim.Native.Nat.{ℕ}
use mathlib.Core.Path.{◌≡◌, sym, subst}
use mathlib.Core.Logic.{◌⊎◌, inl, inr}
use mathlib.Core.List.{List}
use Rattle.rdfs.specs.Facts.{Fact, made, Graph, graph}
use Rattle.rdfs.specs.Consistency.{Lawful}
use Rattle.rdfs.specs.Deletion.{under, between}
use Rattle.rdfs.proofs.Lists.Tests.{Tests, tests_or, tests_and, tests_eq}
use Rattle.rdfs.proofs.Words.FactLaws.{tests_has}

-- Rules 18 and 19; 20 and 21.
pub record Strict (R : ℕ → ℕ → Type 0) : Type 0 where
  pub trans : (x y z : ℕ) → R x y → R y z → R x z
  pub apart : (x y : ℕ) → R x y → R y x → ⊥

-- The links of kind k (5 for classes, 6 for properties) in a graph.
abbrev pub Links : Graph → ℕ → ℕ → ℕ → Type 0
Links G k x y = G (made k x y 0)

pub class_strict : (G : Graph) → Lawful G → Strict (Links G 5)
class_strict G c = record { trans = c.rule_18; apart = c.rule_19 }

pub property_strict : (G : Graph) → Lawful G → Strict (Links G 6)
property_strict G c = record { trans = c.rule_20; apart = c.rule_21 }

-- x is b, or below b.
abbrev pub Under : (ℕ → ℕ → Type 0) → ℕ → ℕ → Type 0
Under R b x = (x ≡ b) ⊎ R x b

-- x is a, or stands between a and b.
abbrev pub Between : (ℕ → ℕ → Type 0) → ℕ → ℕ → ℕ → Type 0
Between R a b x = (x ≡ a) ⊎ (R a x × R x b)

pub tests_under : (K : List Fact) (k b x : ℕ) → Tests (under K k b x) (Under (Links (graph K) k) b x)
tests_under K k b x = tests_or (tests_eq x b) (tests_has K (made k x b 0))

pub tests_between : (K : List Fact) (k a b x : ℕ) → Tests (between K k a b x) (Between (Links (graph K) k) a b x)
tests_between K k a b x = tests_or (tests_eq x a) (tests_and (tests_has K (made k a x 0)) (tests_has K (made k x b 0)))

module _ (R : ℕ → ℕ → Type 0) (s : Strict R) where
  pub strict_differ : (x y : ℕ) → R x y → x ≡ y → ⊥
  strict_differ x y h e = s.apart x y h (subst (R y) (sym e) (subst (λ z. R z y) e h))

  pub under_down : (b y z : ℕ) → R y z → Under R b z → Under R b y
  under_down b y z h (inl e) = inr (subst (R y) e h)
  under_down b y z h (inr k) = inr (s.trans y z b h k)

  pub between_up : (a b x y : ℕ) → Between R a b x → R x y → R a y
  between_up a b x y (inl e) h = subst (λ z. R z y) e h
  between_up a b x y (inr p) h = s.trans a x y p.0 h

  -- With a link from between to b the upper of two links goes that make it.
  pub between_down : (a b x y z : ℕ) → R x y → R y z → Between R a b x × (z ≡ b) → Between R a b y × (z ≡ b)
  between_down a b x y z h k g = (inr (between_up a b x y g.0 h, subst (R y) g.1 k), g.1)

  pub between_below : (a b x : ℕ) → R a b → Between R a b x → R x b
  between_below a b x h (inl e) = subst (λ z. R z b) (sym e) h
  between_below a b x h (inr p) = p.1

  -- Links that keep those from a, but for the one to b, have none from between to b.
  pub between_lost : (a b x : ℕ) (Q : ℕ → ℕ → Type 0) → Strict Q → (Q a b → ⊥) → ((y : ℕ) → R a y → (y ≡ b → ⊥) → Q a y)
      → Between R a b x → Q x b → ⊥
  between_lost a b x Q q without kept (inl e) h = without (subst (λ z. Q z b) e h)
  between_lost a b x Q q without kept (inr p) h = without (q.trans a x b (kept x p.0 (strict_differ x b p.1)) h)
