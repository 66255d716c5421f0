-- Where no value of a property has two holders, some lawful graph holds the table and Excl of it. Assumes nothing.
use Prim.Native.Nat.{ℕ}
use mathlib.Core.Path.{◌≡◌, refl, sym, ap, subst}
use mathlib.Core.Logic.{◌⊎◌, inl, inr, ⊎_elim}
use mathlib.Core.List.{[], ◌∷◌}
use native.Mathlib.Decide.{ℕ_discrete}
use Rattle.rdfs.specs.Facts.{Fact, Graph, cl, pr, ind, lit, csub, psub, dom, rng, ci, pi, excl, graph, ◌⊑◌}
use Rattle.rdfs.specs.Consistency.{Lawful}
use Rattle.rdfs.specs.Promises.{Possible}
use Rattle.rdfs.proofs.Consistency.Holders.{TwoHolders}
use Rattle.rdfs.proofs.Clash.Possible.{one_held}

-- A graph with Excl(a).
abbrev pub Exclusively : Graph → ℕ → Graph
Exclusively G a (cl x) = G (cl x)
Exclusively G a (pr x) = G (pr x)
Exclusively G a (ind x) = G (ind x)
Exclusively G a (lit x) = G (lit x)
Exclusively G a (csub x y) = G (csub x y)
Exclusively G a (psub x y) = G (psub x y)
Exclusively G a (dom x y) = G (dom x y)
Exclusively G a (rng x y) = G (rng x y)
Exclusively G a (ci x y) = G (ci x y)
Exclusively G a (pi x y z) = G (pi x y z)
Exclusively G a (excl x) = G (excl x) ⊎ (x ≡ a)

pub exclusively_holds : (G : Graph) (a : ℕ) → ◌⊑◌ G (Exclusively G a)
exclusively_holds G a (cl x) h = h
exclusively_holds G a (pr x) h = h
exclusively_holds G a (ind x) h = h
exclusively_holds G a (lit x) h = h
exclusively_holds G a (csub x y) h = h
exclusively_holds G a (psub x y) h = h
exclusively_holds G a (dom x y) h = h
exclusively_holds G a (rng x y) h = h
exclusively_holds G a (ci x y) h = h
exclusively_holds G a (pi x y z) h = h
exclusively_holds G a (excl x) h = inl h

-- It has nothing else.
pub exclusively_only : (G : Graph) (a : ℕ) (f : Fact) → Exclusively G a f → G f ⊎ (f ≡ excl a)
exclusively_only G a (cl x) h = inl h
exclusively_only G a (pr x) h = inl h
exclusively_only G a (ind x) h = inl h
exclusively_only G a (lit x) h = inl h
exclusively_only G a (csub x y) h = inl h
exclusively_only G a (psub x y) h = inl h
exclusively_only G a (dom x y) h = inl h
exclusively_only G a (rng x y) h = inl h
exclusively_only G a (ci x y) h = inl h
exclusively_only G a (pi x y z) h = inl h
exclusively_only G a (excl x) h = ⊎_elim inl (λ e. inr (ap excl e)) h

module _ (G : Graph) (c : Lawful G) (a : ℕ) (known : G (pr a)) (n : TwoHolders G a → ⊥) where
  one : (x y w : ℕ) → G (pi x y a) → G (pi w y a) → x ≡ w
  one x y w h k = elim (ℕ_discrete x w) [
    | yes e ↦ e
    | no d ↦ absurd (n record { one = x; another = w; value = y; first = h; second = k; other = d })
  ]

  pub exclusively_lawful : Lawful (Exclusively G a)
  exclusively_lawful = record {
    rule_4 = c.rule_4;
    rule_5 = c.rule_5;
    rule_6 = c.rule_6;
    rule_7 = c.rule_7;
    rule_8 = c.rule_8;
    rule_9 = c.rule_9;
    rule_10 = c.rule_10;
    rule_11 = c.rule_11;
    rule_12 = c.rule_12;
    rule_13 = c.rule_13;
    rule_14 = c.rule_14;
    rule_15 = c.rule_15;
    rule_16 = c.rule_16;
    rule_17 = c.rule_17;
    rule_18 = c.rule_18;
    rule_19 = c.rule_19;
    rule_20 = c.rule_20;
    rule_21 = c.rule_21;
    rule_22 = c.rule_22;
    rule_23 = c.rule_23;
    rule_24 = c.rule_24;
    rule_25 = c.rule_25;
    rule_26 = c.rule_26;
    rule_27 = c.rule_27;
    rule_h1 = c.rule_h1;
    rule_h2 = c.rule_h2;
    rule_h3 = c.rule_h3;
    rule_h4 = c.rule_h4;
    rule_e1 = λ x. ⊎_elim (c.rule_e1 x) (λ e. subst (λ v. G (pr v)) (sym e) known);
    rule_e2 = λ x y z w e h k. ⊎_elim (λ o. c.rule_e2 x y z w o h k) (λ e. one x y w (subst (λ v. G (pi x y v)) e h)
        (subst (λ v. G (pi w y v)) e k)) e;
  }

  pub exclusive_possible : Possible G (graph (excl a ∷ []))
  exclusive_possible = (
    Exclusively G a,
    exclusively_lawful,
    exclusively_holds G a,
    one_held (Exclusively G a) (excl a) (inr refl),
  )
