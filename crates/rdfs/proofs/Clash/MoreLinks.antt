-- A class link or a property link put into a schema, with what it carries by transitivity. Assumes nothing.
use Prim.Native.Nat.{ℕ}
use mathlib.Core.Path.{refl, sym, subst}
use mathlib.Core.Logic.{inl, inr, ⊎_elim}
use Rattle.rdfs.specs.Facts.{Graph, cl, pr, ind, lit, csub, psub, dom, rng, ci, pi, excl, ◌⊑◌}
use Rattle.rdfs.proofs.Clash.Hierarchy.{Le, le_trans, Link, link_order}
use Rattle.rdfs.proofs.Clash.OneRole.{RoleName, class, property, individual, literal, is, OneRole}
use Rattle.rdfs.proofs.Clash.Schema.{Ends, Schema, Beside, le_grows, beside_refl, beside_trans, beside_grows}

-- A graph with other links.
abbrev pub Linked : Graph → (ℕ → ℕ → Type 0) → (ℕ → ℕ → Type 0) → Graph
Linked G CSub PSub (cl x) = G (cl x)
Linked G CSub PSub (pr x) = G (pr x)
Linked G CSub PSub (ind x) = G (ind x)
Linked G CSub PSub (lit x) = G (lit x)
Linked G CSub PSub (csub x y) = CSub x y
Linked G CSub PSub (psub x y) = PSub x y
Linked G CSub PSub (dom x y) = G (dom x y)
Linked G CSub PSub (rng x y) = G (rng x y)
Linked G CSub PSub (ci x y) = G (ci x y)
Linked G CSub PSub (pi x y z) = G (pi x y z)
Linked G CSub PSub (excl x) = G (excl x)

-- Where Q holds, class a is put below class b.
abbrev pub ClassLink : Graph → Type 0 → ℕ → ℕ → Graph
ClassLink G Q a b = Linked G (Link (λ x y. G (csub x y)) Q a b) (λ x y. G (psub x y))

-- Property a is put below property b.
abbrev pub PropertyLink : Graph → ℕ → ℕ → Graph
PropertyLink G a b = Linked G (λ x y. G (csub x y)) (Link (λ x y. G (psub x y)) (Unit {0}) a b)

linked_holds : (G : Graph) (CSub PSub : ℕ → ℕ → Type 0) → ((x y : ℕ) → G (csub x y) → CSub x y)
    → ((x y : ℕ) → G (psub x y) → PSub x y) → ◌⊑◌ G (Linked G CSub PSub)
linked_holds G CSub PSub c p (cl x) h = h
linked_holds G CSub PSub c p (pr x) h = h
linked_holds G CSub PSub c p (ind x) h = h
linked_holds G CSub PSub c p (lit x) h = h
linked_holds G CSub PSub c p (csub x y) h = c x y h
linked_holds G CSub PSub c p (psub x y) h = p x y h
linked_holds G CSub PSub c p (dom x y) h = h
linked_holds G CSub PSub c p (rng x y) h = h
linked_holds G CSub PSub c p (ci x y) h = h
linked_holds G CSub PSub c p (pi x y z) h = h
linked_holds G CSub PSub c p (excl x) h = h

pub class_link_holds : (G : Graph) (Q : Type 0) (a b : ℕ) → ◌⊑◌ G (ClassLink G Q a b)
class_link_holds G Q a b = linked_holds G (Link (λ x y. G (csub x y)) Q a b) (λ x y. G (psub x y)) (λ x y h. inl h) (λ x y h. h)

pub property_link_holds : (G : Graph) (a b : ℕ) → ◌⊑◌ G (PropertyLink G a b)
property_link_holds G a b =
    linked_holds G (λ x y. G (csub x y)) (Link (λ x y. G (psub x y)) (Unit {0}) a b) (λ x y h. h) (λ x y h. inl h)

-- Links change no role.
linked_role : (G : Graph) (CSub PSub : ℕ → ℕ → Type 0) (p : RoleName) (x : ℕ) → Linked G CSub PSub (is p x) → G (is p x)
linked_role G CSub PSub class x h = h
linked_role G CSub PSub property x h = h
linked_role G CSub PSub individual x h = h
linked_role G CSub PSub literal x h = h

linked_roles : (G : Graph) (CSub PSub : ℕ → ℕ → Type 0) → OneRole G → OneRole (Linked G CSub PSub)
linked_roles G CSub PSub one x p q h k = one x p q (linked_role G CSub PSub p x h) (linked_role G CSub PSub q x k)

-- The two ends of what a link carries are of its own sort.
link_both : (R : ℕ → ℕ → Type 0) (P : ℕ → Type 0) (Q : Type 0) (a b : ℕ) → ((x y : ℕ) → R x y → P x × P y) → (Q → P a × P b)
    → (x y : ℕ) → Link R Q a b x y → P x × P y
link_both R P Q a b both at x y (inl h) = both x y h
link_both R P Q a b both at x y (inr q) = (
  ⊎_elim (λ e. subst P (sym e) (at q.0).0) (λ h. (both x a h).0) q.1,
  ⊎_elim (λ e. subst P e (at q.0).1) (λ h. (both b y h).1) q.2,
)

-- A relation of ends that grows.
ends_grow : (Pr : ℕ → Type 0) (PSub End Rises Rises' : ℕ → ℕ → Type 0) → ((x y : ℕ) → Rises x y → Rises' x y)
    → Ends Pr PSub End Rises → Ends Pr PSub End Rises'
ends_grow Pr PSub End Rises Rises' grows s =
    record { some = s.some; one = s.one; up = λ x y z w h k m. grows z w (s.up x y z w h k m) }

-- The ends of the two properties of a link settle those of all that it carries.
ends_link : (Pr : ℕ → Type 0) (PSub End Rises : ℕ → ℕ → Type 0) (a b : ℕ) → Ends Pr PSub End Rises → ((x : ℕ) → Rises x x)
    → ((x y z : ℕ) → Rises x y → Rises y z → Rises x z) → Pr a → Pr b → ((z w : ℕ) → End a z → End b w → Rises z w)
    → Ends Pr (Link PSub (Unit {0}) a b) End Rises
ends_link Pr PSub End Rises a b s same more pa pb wanted = record {
  some = s.some;
  one = s.one;
  up = λ x y z w h k m. ⊎_elim (λ l. s.up x y z w l k m) (λ q. carried x y z w q.1 q.2 k m) h;
}
  where
    le_up : (x y z w : ℕ) → Le PSub x y → End x z → End y w → Rises z w
    le_up x y z w (inl e) h k = subst (Rises z) (s.one y z w (subst (λ v. End v z) e h) k) (same z)
    le_up x y z w (inr l) h k = s.up x y z w l h k

    carried : (x y z w : ℕ) → Le PSub x a → Le PSub b y → End x z → End y w → Rises z w
    carried x y z w h k m n =
        let u = s.some a pa in
        let v = s.some b pb in
        more z v.0 w (more z u.0 v.0 (le_up x a z u.0 h m u.1) (wanted u.0 v.0 u.1 v.1))
        (le_up b y v.0 w k v.1 n)

pub class_link_schema : (G : Graph) (Q : Type 0) (a b : ℕ) → Schema G → (Q → G (cl a) × G (cl b))
    → (Q → Le (λ x y. G (csub x y)) b a → ⊥) → Schema (ClassLink G Q a b)
class_link_schema G Q a b s at no_way = record {
  roles = linked_roles G (Link Old Q a b) (λ x y. G (psub x y)) s.roles;
  classes = record {
    both = link_both Old (λ x. G (cl x)) Q a b s.classes.both at;
    root = s.classes.root;
    below_root = λ x h n. inl (s.classes.below_root x h n);
    order = link_order Old Q a b s.classes.order no_way;
  };
  rule_8 = s.rule_8;
  rule_9 = s.rule_9;
  rule_10 = s.rule_10;
  rule_e1 = s.rule_e1;
  properties = s.properties;
  domains = ends_grow (λ x. G (pr x)) (λ x y. G (psub x y)) (λ x y. G (dom x y)) (Le Old) (Le (Link Old Q a b))
      (le_grows Old (Link Old Q a b) (λ x y h. inl h)) s.domains;
  ranges = ends_grow (λ x. G (pr x)) (λ x y. G (psub x y)) (λ x y. G (rng x y)) (Beside Old) (Beside (Link Old Q a b))
      (beside_grows Old (Link Old Q a b) (λ x y h. inl h)) s.ranges;
}
  where
    Old : ℕ → ℕ → Type 0
    Old x y = G (csub x y)

pub property_link_schema : (G : Graph) (a b : ℕ) → Schema G → G (pr a) → G (pr b) → (Le (λ x y. G (psub x y)) b a → ⊥)
    → ((z w : ℕ) → G (dom a z) → G (dom b w) → Le (λ x y. G (csub x y)) z w) → ((z w : ℕ) → G (rng a z) → G (rng b w)
    → Beside (λ x y. G (csub x y)) z w)
    → Schema (PropertyLink G a b)
property_link_schema G a b s pa pb no_way domain range = record {
  roles = linked_roles G Sub (Link Old (Unit {0}) a b) s.roles;
  classes = s.classes;
  rule_8 = link_both Old (λ x. G (pr x)) (Unit {0}) a b s.rule_8 (λ q. (pa, pb));
  rule_9 = s.rule_9;
  rule_10 = s.rule_10;
  rule_e1 = s.rule_e1;
  properties = link_order Old (Unit {0}) a b s.properties (λ q. no_way);
  domains = ends_link (λ x. G (pr x)) Old (λ x y. G (dom x y)) (Le Sub) a b s.domains (λ x. inl refl)
      (le_trans Sub s.classes.order) pa pb domain;
  ranges = ends_link (λ x. G (pr x)) Old (λ x y. G (rng x y)) (Beside Sub) a b s.ranges (beside_refl Sub)
      (beside_trans Sub s.classes.order) pa pb range;
}
  where
    Old : ℕ → ℕ → Type 0
    Old x y = G (psub x y)

    Sub : ℕ → ℕ → Type 0
    Sub x y = G (csub x y)
