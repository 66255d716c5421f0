-- The roles of an id: in a lawful graph it has one at most. Assumes nothing.
use Prim.Native.Nat.{ℕ}
use mathlib.Core.Path.{◌≡◌, refl}
use mathlib.Core.Bool.{not, ◌&&◌}
use mathlib.Core.Logic.{◌⊎◌, inl, inr}
use mathlib.Core.List.{List}
use native.Mathlib.Decide.{ℕ_discrete}
use lib.Dec.{eqb}
use Rattle.rdfs.specs.Lists.{◌∈◌}
use Rattle.rdfs.specs.Facts.{Fact, Graph, cl, pr, ind, lit, made, has, graph}
use Rattle.rdfs.specs.Consistency.{Lawful}
use Rattle.rdfs.specs.Lookups.{other_role}
use Rattle.rdfs.proofs.Lists.Tests.{Tests, differ, tests_and, tests_or, tests_not, tests_eq, tests_as, tests_none}
use Rattle.rdfs.proofs.Words.FactLaws.{tests_has}

pub data RoleName : Type 0 where
  class property individual literal : RoleName

-- The fact that gives x a role, and its kind.
abbrev pub is : RoleName → ℕ → Fact
is class x = cl x
is property x = pr x
is individual x = ind x
is literal x = lit x

abbrev pub role_kind : RoleName → ℕ
role_kind class = 1
role_kind property = 2
role_kind individual = 3
role_kind literal = 4

pub role_some : (r : RoleName) → role_kind r ≡ 0 → ⊥
role_some class = differ tt
role_some property = differ tt
role_some individual = differ tt
role_some literal = differ tt

-- Rules 4, 5, 6 and H2.
abbrev pub OneRole : Graph → Type 0
OneRole G = (x : ℕ) (r s : RoleName) → G (is r x) → G (is s x) → role_kind r ≡ role_kind s

pub one_role : (G : Graph) → Lawful G → OneRole G
one_role G c x class class h k = refl
one_role G c x class property h k = absurd (c.rule_4 x h k)
one_role G c x class individual h k = absurd (c.rule_5 x h k)
one_role G c x class literal h k = absurd ((c.rule_h2 x k).0 h)
one_role G c x property class h k = absurd (c.rule_4 x k h)
one_role G c x property property h k = refl
one_role G c x property individual h k = absurd (c.rule_6 x h k)
one_role G c x property literal h k = absurd ((c.rule_h2 x k).1 h)
one_role G c x individual class h k = absurd (c.rule_5 x k h)
one_role G c x individual property h k = absurd (c.rule_6 x k h)
one_role G c x individual individual h k = refl
one_role G c x individual literal h k = absurd ((c.rule_h2 x k).2 h)
one_role G c x literal class h k = absurd ((c.rule_h2 x h).0 k)
one_role G c x literal property h k = absurd ((c.rule_h2 x h).1 k)
one_role G c x literal individual h k = absurd ((c.rule_h2 x h).2 k)
one_role G c x literal literal h k = refl

-- x has a role, and not by a fact of kind k.
abbrev pub OtherRole : Graph → ℕ → ℕ → Type 0
OtherRole G k x = (r : RoleName) × (role_kind r ≡ k → ⊥) × G (is r x)

-- Where that is not so, every role of x is of kind k.
pub role_of : (G : Graph) (k x : ℕ) → (OtherRole G k x → ⊥) → (r : RoleName) → G (is r x) → role_kind r ≡ k
role_of G k x n r h = elim (ℕ_discrete (role_kind r) k) [ yes e ↦ e | no d ↦ absurd (n (r, d, h)) ]

pub tests_other_role : (K : List Fact) (k x : ℕ) → Tests (other_role K k x) (OtherRole (graph K) k x)
tests_other_role K k x = tests_as (tests_or (at 1) (tests_or (at 2) (tests_or (at 3) (tests_or (at 4) tests_none)))) to from
  where
    Here : ℕ → Type 0
    Here j = (j ≡ k → ⊥) × (made j x 0 0 ∈ K)

    at : (j : ℕ) → Tests (not (eqb j k) && has K (made j x 0 0)) (Here j)
    at j = tests_and (tests_not (tests_eq j k)) (tests_has K (made j x 0 0))

    to : Here 1 ⊎ (Here 2 ⊎ (Here 3 ⊎ (Here 4 ⊎ ⊥))) → OtherRole (graph K) k x
    to (inl h) = (class, h.0, h.1)
    to (inr (inl h)) = (property, h.0, h.1)
    to (inr (inr (inl h))) = (individual, h.0, h.1)
    to (inr (inr (inr (inl h)))) = (literal, h.0, h.1)
    to (inr (inr (inr (inr h)))) = absurd h

    at_role : (r : RoleName) → (role_kind r ≡ k → ⊥) → is r x ∈ K → Here 1 ⊎ (Here 2 ⊎ (Here 3 ⊎ (Here 4 ⊎ ⊥)))
    at_role class n h = inl (n, h)
    at_role property n h = inr (inl (n, h))
    at_role individual n h = inr (inr (inl (n, h)))
    at_role literal n h = inr (inr (inr (inl (n, h))))

    from : OtherRole (graph K) k x → Here 1 ⊎ (Here 2 ⊎ (Here 3 ⊎ (Here 4 ⊎ ⊥)))
    from o = at_role o.0 o.1 o.2
