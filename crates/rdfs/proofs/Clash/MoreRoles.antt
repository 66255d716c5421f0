-- Ids with new roles put into a schema: classes with their link to Resource, individuals, literals, and properties with a domain
-- and a range. Assumes nothing.
use Prim.Native.Nat.{ℕ}
use mathlib.Core.Path.{◌≡◌, refl, sym, subst, ◌∙◌}
use mathlib.Core.Logic.{◌⊎◌, inl, inr, ⊎_elim}
use Rattle.rdfs.specs.Facts.{Graph, cl, pr, ind, lit, csub, psub, dom, rng, ci, pi, excl, ◌⊑◌}
use Rattle.rdfs.proofs.Clash.Hierarchy.{Le}
use Rattle.rdfs.proofs.Clash.OneRole.{RoleName, class, property, individual, literal, is, role_kind, OneRole}
use Rattle.rdfs.proofs.Clash.Schema.{Classes, root_highest, Ends, Schema, Beside, le_grows, beside_grows}
use Rattle.rdfs.proofs.Clash.Full.{Typed}

-- New k x: x is to have the role of kind k, whether it has it or not. New properties have the domain d and the range r.
abbrev pub More : Graph → (ℕ → ℕ → Type 0) → ℕ → ℕ → Graph
More G New d r (cl x) = G (cl x) ⊎ New 1 x
More G New d r (pr x) = G (pr x) ⊎ New 2 x
More G New d r (ind x) = G (ind x) ⊎ New 3 x
More G New d r (lit x) = G (lit x) ⊎ New 4 x
More G New d r (csub x y) = G (csub x y) ⊎ (New 1 x × (y ≡ 0) × (x ≡ 0 → ⊥))
More G New d r (psub x y) = G (psub x y)
More G New d r (dom x y) = G (dom x y) ⊎ (New 2 x × (y ≡ d))
More G New d r (rng x y) = G (rng x y) ⊎ (New 2 x × (y ≡ r))
More G New d r (ci x y) = G (ci x y)
More G New d r (pi x y z) = G (pi x y z)
More G New d r (excl x) = G (excl x)

pub more_holds : (G : Graph) (New : ℕ → ℕ → Type 0) (d r : ℕ) → ◌⊑◌ G (More G New d r)
more_holds G New d r (cl x) h = inl h
more_holds G New d r (pr x) h = inl h
more_holds G New d r (ind x) h = inl h
more_holds G New d r (lit x) h = inl h
more_holds G New d r (csub x y) h = inl h
more_holds G New d r (psub x y) h = h
more_holds G New d r (dom x y) h = inl h
more_holds G New d r (rng x y) h = inl h
more_holds G New d r (ci x y) h = h
more_holds G New d r (pi x y z) h = h
more_holds G New d r (excl x) h = h

-- No id comes to two roles.
pub record Apart (G : Graph) (New : ℕ → ℕ → Type 0) : Type 0 where
  pub old : (k x : ℕ) → New k x → (s : RoleName) → G (is s x) → role_kind s ≡ k
  pub new : (k j x : ℕ) → New k x → New j x → k ≡ j

-- Moreover properties are new, and their domain and range are classes, but for the mark.
pub record Fits (G : Graph) (New : ℕ → ℕ → Type 0) (d r : ℕ) : Type 0 where
  pub apart : Apart G New
  pub fresh : (x : ℕ) → New 2 x → G (pr x) → ⊥
  pub domain : (x : ℕ) → New 2 x → New 1 d
  pub range : (x : ℕ) → New 2 x → (r ≡ 1 → ⊥) → New 1 r

-- Classes more, each below Resource.
classes_more : (Cl New : ℕ → Type 0) (CSub : ℕ → ℕ → Type 0) → Classes Cl CSub → Classes (λ x. Cl x ⊎ New x) (λ x y. CSub x y
    ⊎ (New x × (y ≡ 0) × (x ≡ 0 → ⊥)))
classes_more Cl New CSub s = record {
  both = λ x y. ⊎_elim (λ h. (inl (s.both x y h).0, inl (s.both x y h).1))
      (λ q. (inr q.0, inl (subst Cl (sym q.1) s.root)));
  root = inl s.root;
  below_root = λ x h n. ⊎_elim (λ k. inl (s.below_root x k n)) (λ k. inr (k, refl, n)) h;
  order = record {
    trans = λ x y z h k. ⊎_elim
        (λ p. ⊎_elim (λ q. inl (s.order.trans x y z p q))
        (λ q. inl (subst (CSub x) (sym q.1) (s.below_root x (s.both x y p).0 (λ e. top x y e p)))) k)
        (λ p. ⊎_elim (λ q. absurd (top y z p.1 q)) (λ q. absurd (q.2 p.1)) k) h;
    apart = λ x y h k. ⊎_elim
        (λ p. ⊎_elim (s.order.apart x y p) (λ q. top x y q.1 p) k)
        (λ p. ⊎_elim (λ q. top y x p.1 q) (λ q. q.2 p.1) k) h;
  };
}
  where
    top : (x z : ℕ) → x ≡ 0 → CSub x z → ⊥
    top x z e h = root_highest Cl CSub s z (subst (λ v. CSub v z) e h)

-- Properties more, each with the end e.
ends_more : (Pr New : ℕ → Type 0) (PSub End Rises Rises' : ℕ → ℕ → Type 0) (e : ℕ) → Ends Pr PSub End Rises
    → ((x y : ℕ) → Rises x y → Rises' x y)
    → ((x y : ℕ) → PSub x y → Pr x × Pr y) → ((x y : ℕ) → End x y → Pr x) → ((x : ℕ) → New x → Pr x → ⊥)
    → Ends (λ x. Pr x ⊎ New x) PSub (λ x y. End x y ⊎ (New x × (y ≡ e))) Rises'
ends_more Pr New PSub End Rises Rises' e s grows both has fresh = record {
  some = λ x. ⊎_elim (λ h. let q = s.some x h in (q.0, inl q.1)) (λ n. (e, inr (n, refl)));
  one = λ x y z h k. ⊎_elim
      (λ p. ⊎_elim (λ q. s.one x y z p q) (λ q. absurd (fresh x q.0 (has x y p))) k)
      (λ p. ⊎_elim (λ q. absurd (fresh x p.0 (has x z q))) (λ q. p.1 ∙ sym q.1) k) h;
  up = λ x y z w l h k. grows z w (s.up x y z w l (old x z (both x y l).0 h) (old y w (both x y l).1 k));
}
  where
    old : (x z : ℕ) → Pr x → End x z ⊎ (New x × (z ≡ e)) → End x z
    old x z p (inl h) = h
    old x z p (inr q) = absurd (fresh x q.0 p)

module _ (G : Graph) (New : ℕ → ℕ → Type 0) (d r : ℕ) (s : Schema G) (f : Fits G New d r) where
  role_more : (q : RoleName) (x : ℕ) → More G New d r (is q x) → G (is q x) ⊎ New (role_kind q) x
  role_more class x h = h
  role_more property x h = h
  role_more individual x h = h
  role_more literal x h = h

  roles_more : OneRole (More G New d r)
  roles_more x p q h k = ⊎_elim
      (λ a. ⊎_elim (λ b. s.roles x p q a b) (λ b. f.apart.old (role_kind q) x b p a) (role_more q x k))
      (λ a. ⊎_elim (λ b. sym (f.apart.old (role_kind p) x a q b)) (λ b. f.apart.new (role_kind p) (role_kind q) x a b)
      (role_more q x k)) (role_more p x h)

  pub more_schema : Schema (More G New d r)
  more_schema = record {
    roles = roles_more;
    classes = classes_more (λ x. G (cl x)) (New 1) (λ x y. G (csub x y)) s.classes;
    rule_8 = λ x y h. (inl (s.rule_8 x y h).0, inl (s.rule_8 x y h).1);
    rule_9 = λ x y. ⊎_elim (λ h. (inl (s.rule_9 x y h).0, inl (s.rule_9 x y h).1))
        (λ q. (inr q.0, inr (subst (New 1) (sym q.1) (f.domain x q.0))));
    rule_10 = λ x y. ⊎_elim
        (λ h. (inl (s.rule_10 x y h).0, λ n. inl ((s.rule_10 x y h).1 n)))
        (λ q. (inr q.0, λ n. inr (subst (New 1) (sym q.1) (f.range x q.0 (λ e. n (q.1 ∙ e))))));
    rule_e1 = λ x h. inl (s.rule_e1 x h);
    properties = s.properties;
    domains = ends_more (λ x. G (pr x)) (New 2) (λ x y. G (psub x y)) (λ x y. G (dom x y)) (Le Old) (Le Joined) d s.domains
        (le_grows Old Joined (λ x y h. inl h)) s.rule_8 (λ x y h. (s.rule_9 x y h).0) f.fresh;
    ranges = ends_more (λ x. G (pr x)) (New 2) (λ x y. G (psub x y)) (λ x y. G (rng x y)) (Beside Old) (Beside Joined) r
        s.ranges
        (beside_grows Old Joined (λ x y h. inl h)) s.rule_8 (λ x y h. (s.rule_10 x y h).0) f.fresh;
  }
    where
      Old : ℕ → ℕ → Type 0
      Old x y = G (csub x y)

      Joined : ℕ → ℕ → Type 0
      Joined x y = More G New d r (csub x y)

  -- What was typed stays so.
  pub typed_more : (x y z : ℕ) → Typed G x y z → Typed (More G New d r) x y z
  typed_more x y z t = (
    inl t.0,
    inl t.1,
    ⊎_elim (λ h. inl (t.2 h)) (λ q. absurd (f.fresh z q.0 t.1)),
    λ w h n. ⊎_elim (λ k. inl (t.3 w k n)) (λ q. absurd (f.fresh z q.0 t.1)) h,
  )
