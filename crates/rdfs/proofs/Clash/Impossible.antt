-- Where the lookups find a clash no lawful graph holds the table and the asked facts, by kind of ticket. Assumes nothing.
use Prim.Native.Nat.{ℕ}
use mathlib.Core.Path.{◌≡◌, sym, subst, ◌∙◌}
use mathlib.Core.Logic.{inl, inr}
use mathlib.Core.List.{[], ◌∷◌}
use Rattle.rdfs.specs.Facts.{Graph, cl, pr, ind, lit, csub, psub, dom, rng, pi, graph, ◌⊑◌}
use Rattle.rdfs.specs.Consistency.{Lawful}
use Rattle.rdfs.specs.Tickets.{property_facts}
use Rattle.rdfs.proofs.Deletion.Between.{class_strict, property_strict, Strict}
use Rattle.rdfs.proofs.Clash.Hierarchy.{Le, le_trans, order_back}
use Rattle.rdfs.proofs.Clash.OneRole.{RoleName, class, property, individual, literal, is, role_kind, one_role, OtherRole}
use Rattle.rdfs.proofs.Clash.Schema.{schema_of, root_highest, Beside, differ_le, beside_mark, beside_le, le_grows}
use Rattle.rdfs.proofs.Clash.Full.{values_typed}
use Rattle.rdfs.proofs.Clash.SharedValues.{taken_impossible, shared_impossible}
use Rattle.rdfs.proofs.Clash.Possible.{more_held, one_held}
use Rattle.rdfs.proofs.Clash.LookupTests.{PropertyClash, ClassLinkClash, ValueClash, PropertyLinkClash}

-- G is the table's graph, H the other.
module _ (G H : Graph) (g : Lawful G) (c : Lawful H) (sub : ◌⊑◌ G H) where
  pub role_impossible : (r : RoleName) (x : ℕ) → H (is r x) → OtherRole G (role_kind r) x → ⊥
  role_impossible r x h o = o.1 (one_role H c x o.0 r (sub (is o.0 x) o.2) h)

  pub value_impossible : (a b p : ℕ) → G (pr p) → H (pi a b p) → ValueClash G a b p → ⊥
  value_impossible a b p known h (inl o) = role_impossible individual a (c.rule_12 a b p h).0 o
  value_impossible a b p known h (inr (inl (inl (r, inl o)))) = role_impossible literal b (c.rule_h3 a b p (sub (rng p 1) r) h) o
  value_impossible a b p known h (inr (inl (inl (r, inr e)))) =
      (c.rule_h2 b (c.rule_h3 a b p (sub (rng p 1) r) h)).2 (subst (λ v. H (ind v)) e (c.rule_12 a b p h).0)
  value_impossible a b p known h (inr (inl (inr (n, o)))) =
      let r = (g.rule_15 p known).1 in
      role_impossible individual b ((values_typed H c a b p h).3 r.0 (sub (rng p r.0) r.1)
      (λ e. n (subst (λ v. G (rng p v)) e r.1))) o
  value_impossible a b p known h (inr (inr o)) = taken_impossible G H c sub a b p h o

  pub class_link_impossible : (a b : ℕ) → H (csub a b) → ClassLinkClash G a b → ⊥
  class_link_impossible a b h (inl o) = role_impossible class a (c.rule_7 a b h).0 o
  class_link_impossible a b h (inr (inl o)) = role_impossible class b (c.rule_7 a b h).1 o
  class_link_impossible a b h (inr (inr (inl e))) = order_back (λ x y. H (csub x y)) (class_strict H c) a b h (inl (sym e))
  class_link_impossible a b h (inr (inr (inr (inl e)))) =
      root_highest (λ x. H (cl x)) (λ x y. H (csub x y)) (schema_of H c).classes b (subst (λ v. H (csub v b)) e h)
  class_link_impossible a b h (inr (inr (inr (inr k)))) = c.rule_19 a b h (sub (csub b a) k)

  -- A role of what is a property elsewhere is that of a property.
  is_property : (a : ℕ) → H (pr a) → (r : RoleName) → G (is r a) → G (pr a)
  is_property a h class k = absurd (c.rule_4 a (sub (cl a) k) h)
  is_property a h property k = k
  is_property a h individual k = absurd (c.rule_6 a h (sub (ind a) k))
  is_property a h literal k = absurd ((c.rule_h2 a (sub (lit a) k)).1 h)

  -- A property of the table has the domain and the range asked for, or none can hold both.
  property_held : (a b z : ℕ) → H (dom a b) → H (rng a z) → G (pr a) → ◌⊑◌ (graph (property_facts a b z)) G
  property_held a b z hd hr h =
      let q = g.rule_15 a h in
      let d : G (dom a b) = subst (λ v. G (dom a v)) (c.rule_16 a q.0.0 b (sub (dom a q.0.0) q.0.1) hd) q.0.1 in
      let r : G (rng a z) = subst (λ v. G (rng a v)) (c.rule_17 a q.1.0 z (sub (rng a q.1.0) q.1.1) hr) q.1.1 in
      more_held G (pr a) (dom a b ∷ rng a z ∷ []) h (more_held G (dom a b) (rng a z ∷ []) d (one_held G (rng a z) r))

  pub property_impossible : (a b z : ℕ) → (a ≡ 1 → ⊥) → H (dom a b) → H (rng a z) → PropertyClash G a b z → ⊥
  property_impossible a b z no_mark hd hr (n, inl o) =
      n (property_held a b z hd hr (is_property a (c.rule_9 a b hd).0 o.0 o.2))
  property_impossible a b z no_mark hd hr (n, inr (inl o)) = role_impossible class b (c.rule_9 a b hd).1 o
  property_impossible a b z no_mark hd hr (n, inr (inr (inl (m, o)))) = role_impossible class z ((c.rule_10 a z hr).1 m) o
  property_impossible a b z no_mark hd hr (n, inr (inr (inr (inl e)))) =
      c.rule_4 b (c.rule_9 a b hd).1 (subst (λ v. H (pr v)) e (c.rule_9 a b hd).0)
  property_impossible a b z no_mark hd hr (n, inr (inr (inr (inr e)))) =
      c.rule_4 z ((c.rule_10 a z hr).1 (λ m. no_mark (e ∙ m))) (subst (λ v. H (pr v)) e (c.rule_9 a b hd).0)

  module _ (a b da db ra rb : ℕ) (at-da : G (dom a da)) (at-db : G (dom b db)) (at-ra : G (rng a ra)) (at-rb : G (rng b rb))
      (h : H (psub a b)) where
    abbrev Sub : ℕ → ℕ → Type 0
    Sub x y = H (csub x y)

    classes : Strict Sub
    classes = class_strict H c

    domains : Le Sub da db
    domains = (schema_of H c).domains.up a b da db h (sub (dom a da) at-da) (sub (dom b db) at-db)

    ranges : Beside Sub ra rb
    ranges = (schema_of H c).ranges.up a b ra rb h (sub (rng a ra) at-ra) (sub (rng b rb) at-rb)

    old : (x y : ℕ) → Le (λ p q. G (csub p q)) x y → Le Sub x y
    old = le_grows (λ p q. G (csub p q)) Sub (λ p q k. sub (csub p q) k)

    -- The wanted links close no cycle, alone or together.
    cycle : (x y : ℕ) → Le Sub x y → (x ≡ y → ⊥) → Le Sub y x → ⊥
    cycle x y l n k = order_back Sub classes x y (differ_le Sub x y l n) k

    pub property_link_impossible : PropertyLinkClash G a b da db ra rb → ⊥
    property_link_impossible (inl e) = order_back (λ x y. H (psub x y)) (property_strict H c) a b h (inl (sym e))
    property_link_impossible (inr (inl k)) = c.rule_21 a b h (sub (psub b a) k)
    property_link_impossible (inr (inr (inl (inl (inl m))))) = m.1 ((beside_mark Sub ra rb ranges).0 m.0)
    property_link_impossible (inr (inr (inl (inl (inr m))))) = m.0 ((beside_mark Sub ra rb ranges).1 m.1)
    property_link_impossible (inr (inr (inl (inr (inl (n, k)))))) = cycle da db domains n (old db da (inr k))
    property_link_impossible (inr (inr (inl (inr (inr (inl (n, k))))))) = cycle ra rb (beside_le Sub ra rb ranges) n (old rb ra
        (inr k))
    property_link_impossible (inr (inr (inl (inr (inr (inr (n, (m, (k, l))))))))) =
        cycle da db domains n (le_trans Sub classes db ra da (old db ra k) (le_trans Sub classes ra rb da
        (beside_le Sub ra rb ranges) (old rb da l)))
    property_link_impossible (inr (inr (inr o))) = shared_impossible G H c sub a b h o
