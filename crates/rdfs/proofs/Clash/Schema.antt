-- The rules that do not speak of memberships and values, in the parts in which a graph can grow: roles, classes, properties, the
-- ends of properties. Assumes nothing.
use Prim.Native.Nat.{ℕ}
use mathlib.Core.Path.{◌≡◌, refl, sym, subst, ◌∙◌}
use mathlib.Core.Logic.{◌⊎◌, inl, inr}
use native.Mathlib.Decide.{ℕ_discrete}
use Rattle.rdfs.specs.Facts.{Graph, cl, pr, csub, psub, dom, rng}
use Rattle.rdfs.specs.Rules.{Meets, r8, r9, r10, e1}
use Rattle.rdfs.specs.Consistency.{Lawful}
use Rattle.rdfs.proofs.Deletion.Between.{Strict, class_strict, property_strict}
use Rattle.rdfs.proofs.Clash.Hierarchy.{Le, le_trans}
use Rattle.rdfs.proofs.Clash.OneRole.{OneRole, one_role}

-- Rules 7, 13, H1, 18, 19.
pub record Classes (Cl : ℕ → Type 0) (CSub : ℕ → ℕ → Type 0) : Type 0 where
  pub both : (x y : ℕ) → CSub x y → Cl x × Cl y
  pub root : Cl 0
  pub below_root : (x : ℕ) → Cl x → (x ≡ 0 → ⊥) → CSub x 0
  pub order : Strict CSub

-- Nothing is above Resource.
pub root_highest : (Cl : ℕ → Type 0) (CSub : ℕ → ℕ → Type 0) → Classes Cl CSub → (z : ℕ) → CSub 0 z → ⊥
root_highest Cl CSub s z h = elim (ℕ_discrete z 0) [
  | yes e ↦ s.order.apart 0 0 (subst (CSub 0) e h) (subst (CSub 0) e h)
  | no n ↦ s.order.apart 0 z h (s.below_root z (s.both 0 z h).1 n)
]

-- What the range of a property is to that of a property above, by rules 23 and H4. For domains, by rule 22, it is Le.
abbrev pub Beside : (ℕ → ℕ → Type 0) → ℕ → ℕ → Type 0
Beside CSub z w = ((z ≡ 1) × (w ≡ 1)) ⊎ ((z ≡ 1 → ⊥) × (w ≡ 1 → ⊥) × Le CSub z w)

-- Every property has one end, and it is Rises that of a property above: rules 15, 16, 22, or 15, 17, 23 and H4.
pub record Ends (Pr : ℕ → Type 0) (PSub End Rises : ℕ → ℕ → Type 0) : Type 0 where
  pub some : (x : ℕ) → Pr x → (y : ℕ) × End x y
  pub one : (x y z : ℕ) → End x y → End x z → y ≡ z
  pub up : (x y z w : ℕ) → PSub x y → End x z → End y w → Rises z w

pub record Schema (G : Graph) : Type 0 where
  pub roles : OneRole G
  pub classes : Classes (λ x. G (cl x)) (λ x y. G (csub x y))
  pub rule_8 : Meets G r8
  pub rule_9 : Meets G r9
  pub rule_10 : Meets G r10
  pub rule_e1 : Meets G e1
  pub properties : Strict (λ x y. G (psub x y))
  pub domains : Ends (λ x. G (pr x)) (λ x y. G (psub x y)) (λ x y. G (dom x y)) (Le (λ x y. G (csub x y)))
  pub ranges : Ends (λ x. G (pr x)) (λ x y. G (psub x y)) (λ x y. G (rng x y)) (Beside (λ x y. G (csub x y)))

-- Two ids of which a link is wanted where they differ.
pub le_differ : (R : ℕ → ℕ → Type 0) (x y : ℕ) → ((x ≡ y → ⊥) → R x y) → Le R x y
le_differ R x y h = elim (ℕ_discrete x y) [ yes e ↦ inl e | no n ↦ inr (h n) ]

pub differ_le : (R : ℕ → ℕ → Type 0) (x y : ℕ) → Le R x y → (x ≡ y → ⊥) → R x y
differ_le R x y (inl e) n = absurd (n e)
differ_le R x y (inr h) n = h

pub beside_differ : (R : ℕ → ℕ → Type 0) (x y : ℕ) → (x ≡ 1 → y ≡ 1) → (y ≡ 1 → x ≡ 1) → ((x ≡ y → ⊥) → (x ≡ 1 → ⊥) → (y ≡ 1 → ⊥)
    → R x y) → Beside R x y
beside_differ R x y to from h = elim (ℕ_discrete x 1) [
  | yes e ↦ inl (e, to e)
  | no n ↦ let m : y ≡ 1 → ⊥ = λ e. n (from e) in inr (n, m, le_differ R x y (λ d. h d n m))
]

pub beside_mark : (R : ℕ → ℕ → Type 0) (x y : ℕ) → Beside R x y → (x ≡ 1 → y ≡ 1) × (y ≡ 1 → x ≡ 1)
beside_mark R x y (inl p) = ((λ e. p.1), (λ e. p.0))
beside_mark R x y (inr p) = ((λ e. absurd (p.0 e)), (λ e. absurd (p.1 e)))

pub beside_le : (R : ℕ → ℕ → Type 0) (x y : ℕ) → Beside R x y → Le R x y
beside_le R x y (inl p) = inl (p.0 ∙ sym p.1)
beside_le R x y (inr p) = p.2

pub schema_of : (G : Graph) → Lawful G → Schema G
schema_of G c = record {
  roles = one_role G c;
  classes = record { both = c.rule_7; root = c.rule_h1; below_root = c.rule_13; order = class_strict G c };
  rule_8 = c.rule_8;
  rule_9 = c.rule_9;
  rule_10 = c.rule_10;
  rule_e1 = c.rule_e1;
  properties = property_strict G c;
  domains = record {
    some = λ x h. (c.rule_15 x h).0;
    one = c.rule_16;
    up = λ x y z w h k m. le_differ (λ x y. G (csub x y)) z w (c.rule_22 x y z w h k m);
  };
  ranges = record {
    some = λ x h. (c.rule_15 x h).1;
    one = c.rule_17;
    up = λ x y z w h k m. let e = c.rule_h4 x y z w h k m in
        beside_differ (λ x y. G (csub x y)) z w e.0 e.1 (c.rule_23 x y z w h k m);
  };
}

-- Both relations of ends are reflexive and transitive.
pub beside_refl : (R : ℕ → ℕ → Type 0) (x : ℕ) → Beside R x x
beside_refl R x = elim (ℕ_discrete x 1) [ yes e ↦ inl (e, e) | no n ↦ inr (n, n, inl refl) ]

pub beside_trans : (R : ℕ → ℕ → Type 0) → Strict R → (x y z : ℕ) → Beside R x y → Beside R y z → Beside R x z
beside_trans R o x y z (inl p) (inl q) = inl (p.0, q.1)
beside_trans R o x y z (inl p) (inr q) = absurd (q.0 p.1)
beside_trans R o x y z (inr p) (inl q) = absurd (p.1 q.0)
beside_trans R o x y z (inr p) (inr q) = inr (p.0, q.1, le_trans R o x y z p.2 q.2)

-- They grow with the class links.
pub le_grows : (R S : ℕ → ℕ → Type 0) → ((x y : ℕ) → R x y → S x y) → (x y : ℕ) → Le R x y → Le S x y
le_grows R S to x y (inl e) = inl e
le_grows R S to x y (inr h) = inr (to x y h)

pub beside_grows : (R S : ℕ → ℕ → Type 0) → ((x y : ℕ) → R x y → S x y) → (x y : ℕ) → Beside R x y → Beside S x y
beside_grows R S to x y (inl p) = inl p
beside_grows R S to x y (inr p) = inr (p.0, p.1, le_grows R S to x y p.2)
