-- Where the lookups find no clash there is a lawful graph that holds the table and the asked facts: class links and property
-- links. Assumes nothing.
use Prim.Native.Nat.{ℕ}
use mathlib.Core.Path.{◌≡◌, refl, sym, ◌∙◌}
use mathlib.Core.Logic.{inl, inr, ⊎_elim}
use mathlib.Core.List.{[], ◌∷◌}
use native.Mathlib.Decide.{ℕ_discrete}
use Rattle.rdfs.specs.Facts.{Graph, cl, csub, psub, dom, rng, graph}
use Rattle.rdfs.specs.Consistency.{Lawful}
use Rattle.rdfs.specs.Promises.{Possible}
use Rattle.rdfs.proofs.Lists.Tests.{differ}
use Rattle.rdfs.proofs.Clash.Hierarchy.{Le, link_self}
use Rattle.rdfs.proofs.Clash.Schema.{Schema, schema_of, Beside, le_differ, beside_differ}
use Rattle.rdfs.proofs.Clash.Full.{Full}
use Rattle.rdfs.proofs.Clash.SharedValues.{one_holder, joined_one_holder}
use Rattle.rdfs.proofs.Clash.MoreRoles.{More, more_holds, more_schema, typed_more}
use Rattle.rdfs.proofs.Clash.MoreLinks.{
  ClassLink,
  class_link_holds,
  class_link_schema,
  PropertyLink,
  property_link_holds,
  property_link_schema,
}
use Rattle.rdfs.proofs.Clash.Wanted.{WantTwo, wants_first, wants_second, two_fit}
use Rattle.rdfs.proofs.Clash.LookupTests.{ClassLinkClash, Mixed, PropertyLinkClash}
use Rattle.rdfs.proofs.Clash.Possible.{one_held, Values, by_schema}

pub same_mark : (z w : ℕ) → (Mixed z w → ⊥) → (z ≡ 1 → w ≡ 1) × (w ≡ 1 → z ≡ 1)
same_mark z w n = (
  (λ e. elim (ℕ_discrete w 1) [ yes d ↦ d | no m ↦ absurd (n (inl (e, m))) ]),
  (λ e. elim (ℕ_discrete z 1) [ yes d ↦ d | no m ↦ absurd (n (inr (m, e))) ]),
)

module _ (G : Graph) (c : Lawful G) where
  pub class_link_possible : (a b : ℕ) → (ClassLinkClash G a b → ⊥) → Possible G (graph (csub a b ∷ []))
  class_link_possible a b n =
      let New : ℕ → ℕ → Type 0 = WantTwo 1 a 1 b in
      let fits = two_fit G 1 a 1 b (λ o. n (inl o)) (λ o. n (inr (inl o))) (λ e. refl) (differ tt) (differ tt) in
      let J : Graph = More G New 0 0 in
      let no_way : Le (λ x y. J (csub x y)) b a → ⊥ =
      ⊎_elim (λ e. n (inr (inr (inl (sym e))))) (⊎_elim (λ h. n (inr (inr (inr (inr h)))))
      (λ q. n (inr (inr (inr (inl q.1)))))) in
      let H : Graph = ClassLink J (Unit {0}) a b in
      let s : Schema H = class_link_schema J (Unit {0}) a b (more_schema G New 0 0 (schema_of G c) fits)
      (λ q. (inr (wants_first 1 a 1 b), inr (wants_second 1 a 1 b))) (λ q. no_way) in
      by_schema G c (graph (csub a b ∷ [])) H s (λ f h. class_link_holds J (Unit {0}) a b f (more_holds G New 0 0 f h))
      (typed_more G New 0 0 (schema_of G c) fits) (one_holder G c)
      (one_held (Full H (Values G)) (csub a b) (link_self (λ x y. J (csub x y)) (Unit {0}) a b tt))

  -- The link of the domains goes in first, then that of the ranges, each where the two differ, then the link of the properties.
  pub property_link_possible : (a b da db ra rb : ℕ) → G (dom a da) → G (dom b db) → G (rng a ra) → G (rng b rb)
      → (PropertyLinkClash G a b da db ra rb → ⊥) → Possible G (graph (psub a b ∷ []))
  property_link_possible a b da db ra rb at-da at-db at-ra at-rb n =
      by_schema G c (graph (psub a b ∷ [])) Whole whole (λ f h. property_link_holds Second a b f (class_link_holds First Q₂ ra rb
      f (class_link_holds G Q₁ da db f h)))
      (λ x y z t. t) (joined_one_holder G c a b (λ o. n (inr (inr (inr o))))) (one_held (Full Whole (Values G)) (psub a b)
      (link_self (λ x y. G (psub x y)) (Unit {0}) a b tt))
    where
      Q₁ : Type 0
      Q₁ = da ≡ db → ⊥

      Q₂ : Type 0
      Q₂ = ra ≡ rb → ⊥

      First : Graph
      First = ClassLink G Q₁ da db

      Second : Graph
      Second = ClassLink First Q₂ ra rb

      Whole : Graph
      Whole = PropertyLink Second a b

      marks : (ra ≡ 1 → rb ≡ 1) × (rb ≡ 1 → ra ≡ 1)
      marks = same_mark ra rb (λ m. n (inr (inr (inl (inl m)))))

      first : Schema First
      first = class_link_schema G Q₁ da db (schema_of G c) (λ q. ((c.rule_9 a da at-da).1, (c.rule_9 b db at-db).1))
          (λ q. ⊎_elim (λ e. q (sym e)) (λ h. n (inr (inr (inl (inr (inl (q, h))))))))

      range_classes : Q₂ → G (cl ra) × G (cl rb)
      range_classes q = (
        (c.rule_10 a ra at-ra).1 (λ e. q (e ∙ sym (marks.0 e))),
        (c.rule_10 b rb at-rb).1 (λ e. q (marks.1 e ∙ sym e)),
      )

      second : Schema Second
      second = class_link_schema First Q₂ ra rb first range_classes
          (λ q. ⊎_elim (λ e. q (sym e)) (⊎_elim (λ h. n (inr (inr (inl (inr (inr (inl (q, h))))))))
          (λ p. n (inr (inr (inl (inr (inr (inr (p.0, (q, (p.2, p.1))))))))))))

      domains : (z w : ℕ) → G (dom a z) → G (dom b w) → Le (λ x y. Second (csub x y)) z w
      domains z w h k =
          let u : z ≡ da = c.rule_16 a z da h at-da in
          let v : db ≡ w = c.rule_16 b db w at-db k in
          le_differ (λ x y. Second (csub x y)) z w (λ d. inl (inr ((λ e. d (u ∙ (e ∙ v))), inl u, inl v)))

      ranges : (z w : ℕ) → G (rng a z) → G (rng b w) → Beside (λ x y. Second (csub x y)) z w
      ranges z w h k =
          let u : z ≡ ra = c.rule_17 a z ra h at-ra in
          let v : rb ≡ w = c.rule_17 b rb w at-rb k in
          beside_differ (λ x y. Second (csub x y)) z w (λ e. sym v ∙ marks.0 (sym u ∙ e)) (λ e. u ∙ marks.1 (v ∙ e))
          (λ d m o. inr ((λ e. d (u ∙ (e ∙ v))), inl u, inl v))

      whole : Schema Whole
      whole = property_link_schema Second a b second (c.rule_9 a da at-da).0 (c.rule_9 b db at-db).0
          (⊎_elim (λ e. n (inl (sym e))) (λ h. n (inr (inl h)))) domains ranges
