-- Where the lookups find no clash there is a lawful graph that holds the table and the asked facts: tickets that give roles.
-- Assumes nothing.
use Prim.Native.Nat.{ℕ}
use mathlib.Core.Path.{◌≡◌, refl, sym, subst}
use mathlib.Core.Logic.{◌⊎◌, inl, inr, ⊎_elim}
use mathlib.Core.List.{List, [], ◌∷◌}
use Rattle.rdfs.specs.Facts.{Fact, Graph, cl, pr, dom, rng, ci, pi, graph, ◌⊑◌}
use Rattle.rdfs.specs.Consistency.{Lawful}
use Rattle.rdfs.specs.Promises.{Possible}
use Rattle.rdfs.specs.Tickets.{property_facts}
use Rattle.rdfs.proofs.Lists.Tests.{differ}
use Rattle.rdfs.proofs.Lists.ListLaws.{in_cons, none_in}
use Rattle.rdfs.proofs.Clash.OneRole.{RoleName, class, property, individual, literal, is, role_kind, role_some, OtherRole}
use Rattle.rdfs.proofs.Clash.Schema.{Schema, schema_of}
use Rattle.rdfs.proofs.Clash.Full.{Typed, values_typed, OneHolder, Full, full_lawful, full_holds}
use Rattle.rdfs.proofs.Clash.SharedValues.{ValueTaken, one_holder, Added, added_one_holder}
use Rattle.rdfs.proofs.Clash.MoreRoles.{More, more_holds, Apart, Fits, more_schema, typed_more}
use Rattle.rdfs.proofs.Clash.Wanted.{NoRole, Want, WantTwo, wants_first, wants_second, none_apart, want_apart, two_fit}
use Rattle.rdfs.proofs.Clash.LookupTests.{NewPropertyClash, PropertyClash, ValueClash}

pub none_held : (H : Graph) → ◌⊑◌ (graph []) H
none_held H f m = absurd (none_in m)

pub more_held : (H : Graph) (f : Fact) (l : List Fact) → H f → ◌⊑◌ (graph l) H → ◌⊑◌ (graph (f ∷ l)) H
more_held H f l h k g m = ⊎_elim (λ e. subst H (sym e) h) (k g) (in_cons m)

pub one_held : (H : Graph) (f : Fact) → H f → ◌⊑◌ (graph (f ∷ [])) H
one_held H f h = more_held H f [] h (none_held H)

-- The values of a graph.
abbrev pub Values : Graph → ℕ → ℕ → ℕ → Type 0
Values G x y z = G (pi x y z)

module _ (G : Graph) (c : Lawful G) where
  -- A larger schema in which the values stay typed is enough.
  pub by_schema : (A H : Graph) → Schema H → ◌⊑◌ G H → ((x y z : ℕ) → Typed G x y z → Typed H x y z) → OneHolder H (Values G)
      → ◌⊑◌ A (Full H (Values G)) → Possible G A
  by_schema A H s holds typed alone asked = (
    Full H (Values G),
    full_lawful H s (Values G) (λ x y z h. typed x y z (values_typed G c x y z h)) alone,
    full_holds G H (Values G) c holds (λ x y z h. h),
    asked,
  )

  by_roles : (A : Graph) (New : ℕ → ℕ → Type 0) (d r : ℕ) → Fits G New d r → ◌⊑◌ A (Full (More G New d r) (Values G))
      → Possible G A
  by_roles A New d r f asked = by_schema A (More G New d r) (more_schema G New d r (schema_of G c) f) (more_holds G New d r)
      (typed_more G New d r (schema_of G c) f) (one_holder G c) asked

  -- One id gets the role of kind k, which is none of a property's.
  by_role : (k a : ℕ) → (2 ≡ k → ⊥) → (OtherRole G k a → ⊥) → (f : Fact)
      → Full (More G (WantTwo k a k a) 0 0) (Values G) f → Possible G (graph (f ∷ []))
  by_role k a not-property free f held = by_roles (graph (f ∷ [])) (WantTwo k a k a) 0 0
      (two_fit G k a k a free free (λ e. refl) not-property not-property)
      (one_held (Full (More G (WantTwo k a k a) 0 0) (Values G)) f held)

  -- Cl, Ind and Lit.
  pub role_possible : (r : RoleName) (a : ℕ) → (2 ≡ role_kind r → ⊥) → (OtherRole G (role_kind r) a → ⊥)
      → Possible G (graph (is r a ∷ []))
  role_possible r a not-property free = by_role (role_kind r) a not-property free (is r a)
      (held r (wants_first (role_kind r) a (role_kind r) a))
    where
      New : ℕ → ℕ → Type 0
      New = WantTwo (role_kind r) a (role_kind r) a

      held : (s : RoleName) → New (role_kind s) a → Full (More G New 0 0) (Values G) (is s a)
      held class n = inr n
      held property n = inr n
      held individual n = inr n
      held literal n = inr n

  -- CI with a class of the table.
  pub member_possible : (a b : ℕ) → G (cl b) → (OtherRole G 3 a → ⊥) → Possible G (graph (ci a b ∷ []))
  member_possible a b known free = by_role 3 a (differ tt) free (ci a b) (inr (wants_first 3 a 3 a), inl known)

  -- The object b of a new value gets the role of kind l.
  by_value : (a b p l : ℕ) → Fits G (WantTwo 3 a l b) 0 0 → Typed (More G (WantTwo 3 a l b) 0 0) a b p
      → (ValueTaken G a b p → ⊥) → Possible G (graph (pi a b p ∷ []))
  by_value a b p l f t free = (
    Full H Value,
    full_lawful H (more_schema G New 0 0 (schema_of G c) f) Value typed (added_one_holder G c a b p free),
    full_holds G H Value c (more_holds G New 0 0) (λ x y z h. inl h),
    one_held (Full H Value) (pi a b p) (p, inr (refl, refl, refl), inl refl),
  )
    where
      New : ℕ → ℕ → Type 0
      New = WantTwo 3 a l b

      H : Graph
      H = More G New 0 0

      Value : ℕ → ℕ → ℕ → Type 0
      Value = Added G c a b p free

      typed : (x y z : ℕ) → Value x y z → Typed H x y z
      typed x y z (inl h) = typed_more G New 0 0 (schema_of G c) f x y z (values_typed G c x y z h)
      typed x y z (inr q) = subst (λ v. Typed H v y z) (sym q.0) (subst (λ v. Typed H a v z) (sym q.1)
          (subst (λ v. Typed H a b v) (sym q.2) t))

  pub value_possible : (a b p : ℕ) → Dec (G (rng p 1)) → G (pr p) → (ValueClash G a b p → ⊥) → Possible G (graph (pi a b p ∷ []))
  value_possible a b p d known n = elim d [
    | yes r ↦
        let f = two_fit G 3 a 4 b (λ o. n (inl o)) (λ o. n (inr (inl (inl (r, inl o))))) (λ e. absurd (n (inr (inl (inl
        (r, inr e))))))
        (differ tt) (differ tt) in
        by_value a b p 4 f (
          inr (wants_first 3 a 4 b),
          inl known,
          (λ h. inr (wants_second 3 a 4 b)),
          λ w h m. absurd (⊎_elim (λ g. m (c.rule_17 p w 1 g r)) (λ q. f.fresh p q.0 known) h),
        ) (λ o. n (inr (inr o)))
    | no m ↦
        let f = two_fit G 3 a 3 b (λ o. n (inl o)) (λ o. n (inr (inl (inr (m, o))))) (λ e. refl) (differ tt) (differ tt) in
        by_value a b p 3 f (
          inr (wants_first 3 a 3 b),
          inl known,
          (λ h. absurd (⊎_elim m (λ q. f.fresh p q.0 known) h)),
          λ w h o. inr (wants_second 3 a 3 b),
        ) (λ o. n (inr (inr o)))
  ]

  -- A property with its domain b and its range z: a has no role at all.
  new_property : (a b z : ℕ) → (NewPropertyClash G a b z → ⊥) → Possible G (graph (property_facts a b z))
  new_property a b z n = by_roles (graph (property_facts a b z)) New b z fits
      (more_held (Full H (Values G)) (pr a) (dom a b ∷ rng a z ∷ []) (inr mine)
      (more_held (Full H (Values G)) (dom a b) (rng a z ∷ []) (inr (mine, refl)) (one_held (Full H (Values G)) (rng a z)
      (inr (mine, refl)))))
    where
      Range : ℕ → ℕ → Type 0
      Range = Want (z ≡ 1 → ⊥) 1 z NoRole

      Classes : ℕ → ℕ → Type 0
      Classes = Want (Unit {0}) 1 b Range

      New : ℕ → ℕ → Type 0
      New = Want (Unit {0}) 2 a Classes

      H : Graph
      H = More G New b z

      mine : New 2 a
      mine = inl (tt, refl, refl)

      classes_apart : Apart G Classes
      classes_apart = want_apart G (Unit {0}) 1 b Range
          (want_apart G (z ≡ 1 → ⊥) 1 z NoRole (none_apart G) (λ q o. n (inr (inr (inl (q, o))))) (λ q j m. absurd m))
          (λ q o. n (inr (inl o))) (λ q j. ⊎_elim (λ p. sym p.1) (λ m. absurd m))

      no_role : (r : RoleName) → G (is r a) → ⊥
      no_role r h = n (inl (r, role_some r, h))

      not_class : (j : ℕ) → Classes j a → 2 ≡ j
      not_class j = ⊎_elim (λ p. absurd (n (inr (inr (inr (inl p.2))))))
          (⊎_elim (λ p. absurd (n (inr (inr (inr (inr p.2)))))) (λ m. absurd m))

      fresh : (x : ℕ) → New 2 x → G (pr x) → ⊥
      fresh x (inl p) h = no_role property (subst (λ v. G (pr v)) p.2 h)
      fresh x (inr (inl p)) h = differ {a = 2} {b = 1} tt p.1
      fresh x (inr (inr (inl p))) h = differ {a = 2} {b = 1} tt p.1
      fresh x (inr (inr (inr m))) h = m

      fits : Fits G New b z
      fits = record {
        apart = want_apart G (Unit {0}) 2 a Classes classes_apart (λ q o. no_role o.0 o.2) (λ q. not_class);
        fresh = fresh;
        domain = λ x m. inr (inl (tt, refl, refl));
        range = λ x m q. inr (inr (inl (q, refl, refl)));
      }

  pub property_possible : (a b z : ℕ) → Dec (◌⊑◌ (graph (property_facts a b z)) G) → (PropertyClash G a b z → ⊥)
      → Possible G (graph (property_facts a b z))
  property_possible a b z d n = elim d [ yes h ↦ (G, c, (λ f m. m), h) | no m ↦ new_property a b z (λ o. n (m, o)) ]
