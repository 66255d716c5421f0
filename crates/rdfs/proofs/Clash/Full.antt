-- A schema with every individual in every class, and values carried to the properties above: the graph is lawful, so it
-- witnesses that an insertion is possible. Assumes nothing.
use Prim.Native.Nat.{ℕ}
use mathlib.Core.Path.{◌≡◌, refl, subst}
use mathlib.Core.Logic.{◌⊎◌, inl, inr}
use native.Mathlib.Decide.{ℕ_discrete}
use Rattle.rdfs.specs.Facts.{Graph, cl, pr, ind, lit, csub, psub, dom, rng, ci, pi, excl, ◌⊑◌}
use Rattle.rdfs.specs.Consistency.{Lawful}
use Rattle.rdfs.proofs.Lists.Tests.{differ}
use Rattle.rdfs.proofs.Clash.Hierarchy.{Le, le_trans}
use Rattle.rdfs.proofs.Clash.OneRole.{class, property, individual, literal}
use Rattle.rdfs.proofs.Clash.Schema.{Schema, differ_le, beside_mark, beside_le}

-- x may have the value y for z: the range of z says whether y is a literal or an individual.
abbrev pub Typed : Graph → ℕ → ℕ → ℕ → Type 0
Typed G x y z = G (ind x) × G (pr z) × (G (rng z 1) → G (lit y)) × ((w : ℕ) → G (rng z w) → (w ≡ 1 → ⊥) → G (ind y))

pub values_typed : (G : Graph) → Lawful G → (x y z : ℕ) → G (pi x y z) → Typed G x y z
values_typed G c x y z h =
    let t = c.rule_12 x y z h in
    (t.0, t.1, (λ r. c.rule_h3 x y z r h), λ w r n. (c.rule_11 y w (c.rule_25 x y z w r n h)).0)

-- The values carried to the properties above.
abbrev pub Carried : Graph → (ℕ → ℕ → ℕ → Type 0) → ℕ → ℕ → ℕ → Type 0
Carried G Value x y w = (z : ℕ) × Value x y z × Le (λ p q. G (psub p q)) z w

-- They give no value two holders through an exclusive property: rule E2.
abbrev pub OneHolder : Graph → (ℕ → ℕ → ℕ → Type 0) → Type 0
OneHolder G Value = (x y z w : ℕ) → G (excl z) → Carried G Value x y z → Carried G Value w y z → x ≡ w

abbrev pub Full : Graph → (ℕ → ℕ → ℕ → Type 0) → Graph
Full G Value (cl x) = G (cl x)
Full G Value (pr x) = G (pr x)
Full G Value (ind x) = G (ind x)
Full G Value (lit x) = G (lit x)
Full G Value (csub x y) = G (csub x y)
Full G Value (psub x y) = G (psub x y)
Full G Value (dom x y) = G (dom x y)
Full G Value (rng x y) = G (rng x y)
Full G Value (ci x y) = G (ind x) × G (cl y)
Full G Value (pi x y w) = Carried G Value x y w
Full G Value (excl x) = G (excl x)

module _ (G : Graph) (s : Schema G) where
  -- A value is typed for the properties above too: their ranges are the mark together.
  typed_up : (x y z w : ℕ) → Le (λ p q. G (psub p q)) z w → Typed G x y z → Typed G x y w
  typed_up x y z w (inl e) t = subst (Typed G x y) e t
  typed_up x y z w (inr h) t =
      let u = s.ranges.some z t.1 in
      let marks : (v : ℕ) → G (rng w v) → (u.0 ≡ 1 → v ≡ 1) × (v ≡ 1 → u.0 ≡ 1) =
      λ v r. beside_mark (λ x y. G (csub x y)) u.0 v (s.ranges.up z w u.0 v h u.1 r) in (
        t.0,
        (s.rule_8 z w h).1,
        (λ r. t.2 (subst (λ v. G (rng z v)) ((marks 1 r).1 refl) u.1)),
        λ v r n. t.3 u.0 u.1 (λ e. n ((marks v r).0 e)),
      )

  -- The object of a value has a role.
  typed_object : (x y z : ℕ) → Typed G x y z → G (ind y) ⊎ G (lit y)
  typed_object x y z t =
      let u = s.ranges.some z t.1 in
      elim (ℕ_discrete u.0 1) [ yes e ↦ inr (t.2 (subst (λ v. G (rng z v)) e u.1)) | no n ↦ inl (t.3 u.0 u.1 n) ]

  pub full_lawful : (Value : ℕ → ℕ → ℕ → Type 0) → ((x y z : ℕ) → Value x y z → Typed G x y z) → OneHolder G Value
      → Lawful (Full G Value)
  full_lawful Value typed alone = record {
    rule_4 = λ x h k. differ {a = 1} {b = 2} tt (s.roles x class property h k);
    rule_5 = λ x h k. differ {a = 1} {b = 3} tt (s.roles x class individual h k);
    rule_6 = λ x h k. differ {a = 2} {b = 3} tt (s.roles x property individual h k);
    rule_7 = s.classes.both;
    rule_8 = s.rule_8;
    rule_9 = s.rule_9;
    rule_10 = s.rule_10;
    rule_11 = λ x y h. h;
    rule_12 = λ x y z h. let t = at x y z h in (t.0, t.1, typed_object x y z t);
    rule_13 = s.classes.below_root;
    rule_14 = λ x h. (h, s.classes.root);
    rule_15 = λ x h. (s.domains.some x h, s.ranges.some x h);
    rule_16 = s.domains.one;
    rule_17 = s.ranges.one;
    rule_18 = s.classes.order.trans;
    rule_19 = s.classes.order.apart;
    rule_20 = s.properties.trans;
    rule_21 = s.properties.apart;
    rule_22 = λ x y z w h k m. differ_le (λ x y. G (csub x y)) z w (s.domains.up x y z w h k m);
    rule_23 = λ x y z w h k m n o p. differ_le (λ x y. G (csub x y)) z w (beside_le (λ x y. G (csub x y)) z w
        (s.ranges.up x y z w h k m)) n;
    rule_24 = λ x y z w h k. ((at x y z k).0, (s.rule_9 z w h).1);
    rule_25 = λ x y z w h n k. ((at x y z k).3 w h n, (s.rule_10 z w h).1 n);
    rule_26 = λ x y z h k. (k.0, (s.classes.both y z h).1);
    rule_27 = λ x y z w h k. (k.0, k.1, le_trans (λ p q. G (psub p q)) s.properties k.0 z w k.2 (inr h));
    rule_h1 = s.classes.root;
    rule_h2 = λ x h. (
      (λ k. differ {a = 4} {b = 1} tt (s.roles x literal class h k)),
      (λ k. differ {a = 4} {b = 2} tt (s.roles x literal property h k)),
      (λ k. differ {a = 4} {b = 3} tt (s.roles x literal individual h k)),
    );
    rule_h3 = λ x y z h k. (at x y z k).2 h;
    rule_h4 = λ x y z w h k m. beside_mark (λ x y. G (csub x y)) z w (s.ranges.up x y z w h k m);
    rule_e1 = s.rule_e1;
    rule_e2 = alone;
  }
    where
      at : (x y w : ℕ) → Carried G Value x y w → Typed G x y w
      at x y w h = typed_up x y h.0 w h.2 (typed x y h.0 h.1)

-- It holds a lawful graph that the schema and the values hold.
pub full_holds : (G H : Graph) (Value : ℕ → ℕ → ℕ → Type 0) → Lawful G → ◌⊑◌ G H → ((x y z : ℕ) → G (pi x y z) → Value x y z)
    → ◌⊑◌ G (Full H Value)
full_holds G H Value c to values (cl x) h = to _ h
full_holds G H Value c to values (pr x) h = to _ h
full_holds G H Value c to values (ind x) h = to _ h
full_holds G H Value c to values (lit x) h = to _ h
full_holds G H Value c to values (csub x y) h = to _ h
full_holds G H Value c to values (psub x y) h = to _ h
full_holds G H Value c to values (dom x y) h = to _ h
full_holds G H Value c to values (rng x y) h = to _ h
full_holds G H Value c to values (ci x y) h = let q = c.rule_11 x y h in (to _ q.0, to _ q.1)
full_holds G H Value c to values (pi x y z) h = (z, values x y z h, inl refl)
full_holds G H Value c to values (excl x) h = to _ h
