-- Who holds a value through a property: the tests on a list, and what they say of a graph. Assumes nothing.
use Prim.Native.Nat.{ℕ}
use mathlib.Core.Path.{◌≡◌, refl, sym, subst}
use mathlib.Core.Bool.{not, ◌&&◌}
use mathlib.Core.List.{List}
use lib.Dec.{eqb}
use Rattle.rdfs.specs.Lists.{◌∈◌, any}
use Rattle.rdfs.specs.Facts.{Fact, pi, first, second, Graph, graph}
use Rattle.rdfs.specs.Demands.{with_c}
use Rattle.rdfs.specs.Clashes.{held_by_other, two_holders}
use Rattle.rdfs.proofs.Lists.Tests.{Tests, tests_and, tests_eq, tests_not}
use Rattle.rdfs.proofs.Lists.ListLaws.{any_in, in_any}
use Rattle.rdfs.proofs.Words.FactLaws.{from_c, to_c}

-- Another than x has the value y through z.
abbrev pub HeldByOther : Graph → ℕ → ℕ → ℕ → Type 0
HeldByOther G x y z = (w : ℕ) × G (pi w y z) × (w ≡ x → ⊥)

-- Two have one value through z.
pub record TwoHolders (G : Graph) (z : ℕ) : Type 0 where
  pub one : ℕ
  pub another : ℕ
  pub value : ℕ
  pub first : G (pi one value z)
  pub second : G (pi another value z)
  pub other : one ≡ another → ⊥

module _ (K : List Fact) where
  tests_other : (x y : ℕ) (f : Fact) → Tests (eqb (second f) y && not (eqb (first f) x)) ((second f ≡ y) × (first f ≡ x → ⊥))
  tests_other x y f = tests_and (tests_eq (second f) y) (tests_not (tests_eq (first f) x))

  pub tests_held : (x y z : ℕ) → Tests (held_by_other K x y z) (HeldByOther (graph K) x y z)
  tests_held x y z = record {
    sound = λ t. let r = any_in (λ f. eqb (second f) y && not (eqb (first f) x)) (with_c K 10 z) t in
        let q = (tests_other x y r.0).sound r.2 in
        (first r.0, subst (λ v. pi (first r.0) v z ∈ K) q.0 (from_c K 10 z r.1), q.1);
    complete = λ h. in_any (λ f. eqb (second f) y && not (eqb (first f) x)) (to_c K h.1)
        ((tests_other x y (pi h.0 y z)).complete (refl, h.2));
  }

  pub tests_two_holders : (z : ℕ) → Tests (two_holders K z) (TwoHolders (graph K) z)
  tests_two_holders z = record {
    sound = λ t. let r = any_in (λ f. held_by_other K (first f) (second f) z) (with_c K 10 z) t in
        let q = (tests_held (first r.0) (second r.0) z).sound r.2 in record {
          one = first r.0;
          another = q.0;
          value = second r.0;
          first = from_c K 10 z r.1;
          second = q.1;
          other = λ e. q.2 (sym e);
        };
    complete = λ h. in_any (λ f. held_by_other K (first f) (second f) z) (to_c K h.first)
        ((tests_held h.one h.value z).complete (h.another, h.second, λ e. h.other (sym e)));
  }
