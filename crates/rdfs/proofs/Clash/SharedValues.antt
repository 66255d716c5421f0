-- Exclusive properties at a property and over it, and the values that would have two holders in them: the tests, and why they are
-- exact. A new value, or a property link, carries values to the properties above; rule E2 can break only where one of those that
-- are carried meets another holder. Assumes nothing.
use Prim.Native.Nat.{ℕ}
use mathlib.Core.Path.{◌≡◌, refl, sym, ap, subst, ◌∙◌}
use mathlib.Core.Bool.{◌&&◌, ◌||◌}
use mathlib.Core.Logic.{◌⊎◌, inl, inr, ⊎_elim}
use mathlib.Core.List.{List}
use native.Mathlib.Decide.{ℕ_discrete}
use lib.Dec.{T, eqb}
use Rattle.rdfs.specs.Lists.{◌∈◌, any}
use Rattle.rdfs.specs.Facts.{Fact, psub, pi, excl, kind, first, second, third, made, Graph, graph, ◌⊑◌}
use Rattle.rdfs.specs.Consistency.{Lawful}
use Rattle.rdfs.specs.Demands.{with_c}
use Rattle.rdfs.specs.Clashes.{held_by_other}
use Rattle.rdfs.specs.Deletion.{under}
use Rattle.rdfs.specs.Lookups.{exclusive_over, values_shared, value_taken}
use Rattle.rdfs.proofs.Lists.Tests.{Tests, tests_and, tests_or, tests_eq}
use Rattle.rdfs.proofs.Lists.ListLaws.{in_filter, filter_in, any_in, in_any}
use Rattle.rdfs.proofs.Words.FactLaws.{made_of, from_c, to_c}
use Rattle.rdfs.proofs.Consistency.Holders.{HeldByOther, TwoHolders, tests_held}
use Rattle.rdfs.proofs.Deletion.Between.{tests_under}
use Rattle.rdfs.proofs.Clash.Hierarchy.{Le, Link}
use Rattle.rdfs.proofs.Clash.Full.{Carried}

-- Excl(g) stands, and g is p or over it.
abbrev pub ExclusiveOver : Graph → ℕ → ℕ → Type 0
ExclusiveOver G p g = G (excl g) × Le (λ x y. G (psub x y)) p g

-- Another than a has the value b through an exclusive property at c or over it.
abbrev pub ValueTaken : Graph → ℕ → ℕ → ℕ → Type 0
ValueTaken G a b c = (g : ℕ) × ExclusiveOver G c g × HeldByOther G a b g

-- A value of a has another holder in a, or in an exclusive property at b or over it.
abbrev pub ValuesShared : Graph → ℕ → ℕ → Type 0
ValuesShared G a b =
    (g : ℕ) × ExclusiveOver G b g × ((x : ℕ) × (y : ℕ) × G (pi x y a) × (HeldByOther G x y a ⊎ HeldByOther G x y g))

module _ (K : List Fact) where
  tests_over : (p : ℕ) (f : Fact) → Tests (eqb (kind f) 11 && under K 6 (first f) p)
      ((kind f ≡ 11) × Le (λ x y. graph K (psub x y)) p (first f))
  tests_over p f = tests_and (tests_eq (kind f) 11) (tests_under K 6 (first f) p)

  in_over : (p : ℕ) {f : Fact} → f ∈ exclusive_over K p → ExclusiveOver (graph K) p (first f)
  in_over p {f} h =
      let r = in_filter (λ f. eqb (kind f) 11 && under K 6 (first f) p) K h in
      let q = (tests_over p f).sound r.1 in
      (subst (λ g. g ∈ K) (sym (made_of f) ∙ ap (λ n. made n (first f) (second f) (third f)) q.0) r.0, q.1)

  over_in : (p g : ℕ) → ExclusiveOver (graph K) p g → excl g ∈ exclusive_over K p
  over_in p g h = filter_in (λ f. eqb (kind f) 11 && under K 6 (first f) p) K h.0 ((tests_over p (excl g)).complete
      (refl, h.1))

  pub tests_taken : (a b c : ℕ) → Tests (value_taken K a b c) (ValueTaken (graph K) a b c)
  tests_taken a b c = record {
    sound = λ t. let r = any_in (λ g. held_by_other K a b (first g)) (exclusive_over K c) t in
        (first r.0, in_over c r.1, (tests_held K a b (first r.0)).sound r.2);
    complete = λ h. in_any (λ g. held_by_other K a b (first g)) (over_in c h.0 h.1) ((tests_held K a b h.0).complete
        h.2);
  }

  tests_meeting : (a g : ℕ) (f : Fact) → Tests (held_by_other K (first f) (second f) a || held_by_other K (first f) (second f) g)
      (HeldByOther (graph K) (first f) (second f) a ⊎ HeldByOther (graph K) (first f) (second f) g)
  tests_meeting a g f = tests_or (tests_held K (first f) (second f) a) (tests_held K (first f) (second f) g)

  pub tests_shared : (a b : ℕ) → Tests (values_shared K a b) (ValuesShared (graph K) a b)
  tests_shared a b = record {
    sound = λ t. let r = any_in (λ g. any (λ f. held_by_other K (first f) (second f) a
        || held_by_other K (first f) (second f) (first g)) (with_c K 10 a)) (exclusive_over K b) t in
        let s = any_in (λ f. held_by_other K (first f) (second f) a || held_by_other K (first f) (second f) (first r.0))
        (with_c K 10 a) r.2 in (
          first r.0,
          in_over b r.1,
          (first s.0, second s.0, from_c K 10 a s.1, (tests_meeting a (first r.0) s.0).sound s.2),
        );
    complete = λ h. let q = h.2 in
        in_any (λ g. any (λ f. held_by_other K (first f) (second f) a || held_by_other K (first f) (second f) (first g))
        (with_c K 10 a)) (over_in b h.0 h.1)
        (in_any (λ f. held_by_other K (first f) (second f) a || held_by_other K (first f) (second f) h.0) (to_c K q.2)
        ((tests_meeting a h.0 (pi q.0 q.1 a)).complete q.3));
  }

-- In a lawful graph values stand in the properties above.
module _ (H : Graph) (c : Lawful H) where
  pub value_up : (x y z w : ℕ) → H (pi x y z) → Le (λ p q. H (psub p q)) z w → H (pi x y w)
  value_up x y z w h (inl e) = subst (λ v. H (pi x y v)) e h
  value_up x y z w h (inr l) = c.rule_27 x y z w l h

  pub carried_stands : (x y w : ℕ) → Carried H (λ x y z. H (pi x y z)) x y w → H (pi x y w)
  carried_stands x y w h = value_up x y h.0 w h.1 h.2

  -- Two different holders through an exclusive property can't be.
  two_held : (x y z w : ℕ) → H (excl z) → H (pi x y z) → H (pi w y z) → (w ≡ x → ⊥) → ⊥
  two_held x y z w e h k n = n (sym (c.rule_e2 x y z w e h k))

-- Where the tests find shared values, no lawful graph H holds G and what is asked for.
module _ (G H : Graph) (c : Lawful H) (sub : ◌⊑◌ G H) where
  up : (x y : ℕ) → Le (λ p q. G (psub p q)) x y → Le (λ p q. H (psub p q)) x y
  up x y (inl e) = inl e
  up x y (inr h) = inr (sub _ h)

  pub taken_impossible : (a b p : ℕ) → H (pi a b p) → ValueTaken G a b p → ⊥
  taken_impossible a b p h (g, over, held) =
      two_held H c a b g held.0 (sub _ over.0) (value_up H c a b p g h (up p g over.1)) (sub _ held.1) held.2

  pub shared_impossible : (a b : ℕ) → H (psub a b) → ValuesShared G a b → ⊥
  shared_impossible a b l (g, over, (x, y, k, held)) = ⊎_elim
      (λ q. two_held H c x y g q.0 (sub _ over.0) (above x y (sub _ k)) (above q.0 y (sub _ q.1)) q.2)
      (λ q. two_held H c x y g q.0 (sub _ over.0) (above x y (sub _ k)) (sub _ q.1) q.2) held
    where
      above : (x y : ℕ) → H (pi x y a) → H (pi x y g)
      above x y h = value_up H c x y b g (c.rule_27 x y a b l h) (up b g over.1)

  pub two_impossible : (a : ℕ) → H (excl a) → TwoHolders G a → ⊥
  two_impossible a e t = t.other (c.rule_e2 t.one t.value a t.another e (sub _ t.first) (sub _ t.second))

-- Where they find none, the values that are carried have one holder each.
module _ (G : Graph) (c : Lawful G) where
  pub one_holder : (x y z w : ℕ) → G (excl z) → Carried G (λ x y z. G (pi x y z)) x y z → Carried G (λ x y z. G (pi x y z)) w y z
      → x ≡ w
  one_holder x y z w e h k = c.rule_e2 x y z w e (carried_stands G c x y z h) (carried_stands G c w y z k)

  same_holder : (x y z : ℕ) → (HeldByOther G x y z → ⊥) → (w : ℕ) → G (pi w y z) → x ≡ w
  same_holder x y z n w h = elim (ℕ_discrete w x) [ yes e ↦ sym e | no d ↦ absurd (n (w, h, d)) ]

  -- With the value b of a through p, in the properties over p too.
  module _ (a b p : ℕ) (free : ValueTaken G a b p → ⊥) where
    abbrev pub Added : ℕ → ℕ → ℕ → Type 0
    Added x y z = G (pi x y z) ⊎ ((x ≡ a) × (y ≡ b) × (z ≡ p))

    added_stands : (x y w : ℕ) → Carried G Added x y w → G (pi x y w) ⊎ ((x ≡ a) × (y ≡ b) × Le (λ p q. G (psub p q)) p w)
    added_stands x y w (z, inl h, l) = inl (value_up G c x y z w h l)
    added_stands x y w (z, inr q, l) = inr (q.0, q.1, subst (λ v. Le (λ p q. G (psub p q)) v w) q.2 l)

    beside_added : (y z w : ℕ) → G (excl z) → y ≡ b → Le (λ p q. G (psub p q)) p z → G (pi w y z) → a ≡ w
    beside_added y z w e q l h = same_holder a b z (λ o. free (z, (e, l), o)) w (subst (λ v. G (pi w v z)) q h)

    pub added_one_holder : (x y z w : ℕ) → G (excl z) → Carried G Added x y z → Carried G Added w y z → x ≡ w
    added_one_holder x y z w e h k = ⊎_elim
        (λ m. ⊎_elim (λ n. c.rule_e2 x y z w e m n) (λ q. sym (beside_added y z x e q.1 q.2 m) ∙ sym q.0)
        (added_stands w y z k))
        (λ q. ⊎_elim (λ n. q.0 ∙ beside_added y z w e q.1 q.2 n) (λ r. q.0 ∙ sym r.0) (added_stands w y z k))
        (added_stands x y z h)

  -- With property a put under b.
  module _ (a b : ℕ) (free : ValuesShared G a b → ⊥) where
    abbrev Joined : ℕ → ℕ → Type 0
    Joined = Link (λ p q. G (psub p q)) (Unit {0}) a b

    joined_stands : (x y w : ℕ) → (z : ℕ) × G (pi x y z) × Le Joined z w
        → G (pi x y w) ⊎ (G (pi x y a) × Le (λ p q. G (psub p q)) b w)
    joined_stands x y w (z, h, inl e) = inl (value_up G c x y z w h (inl e))
    joined_stands x y w (z, h, inr (inl l)) = inl (value_up G c x y z w h (inr l))
    joined_stands x y w (z, h, inr (inr q)) = inr (value_up G c x y z a h q.1, q.2)

    -- A value of a and one of an exclusive property over b, or two of a.
    beside_joined : (x y z w : ℕ) → G (excl z) → G (pi x y a) → Le (λ p q. G (psub p q)) b z → G (pi w y z) → x ≡ w
    beside_joined x y z w e h l k = same_holder x y z (λ o. free (z, (e, l), (x, y, h, inr o))) w k

    pub joined_one_holder : (x y z w : ℕ) → G (excl z) → (p : ℕ) × G (pi x y p) × Le Joined p z
        → (q : ℕ) × G (pi w y q) × Le Joined q z → x ≡ w
    joined_one_holder x y z w e h k = ⊎_elim
        (λ m. ⊎_elim (λ n. c.rule_e2 x y z w e m n) (λ q. sym (beside_joined w y z x e q.0 q.1 m)) (joined_stands w y z k))
        (λ q. ⊎_elim (λ n. beside_joined x y z w e q.0 q.1 n)
        (λ r. same_holder x y a (λ o. free (z, (e, q.1), (x, y, q.0, inl o))) w r.0) (joined_stands w y z k))
        (joined_stands x y z h)
