-- Where the asked facts of a ticket are held, what it makes stands, and what it uses. Assumes nothing.
use Prim.Native.Nat.{ℕ}
use mathlib.Core.Path.{◌≡◌, refl, sym, subst, ◌∙◌}
use mathlib.Core.Logic.{⊎_elim}
use mathlib.Core.List.{List}
use Rattle.rdfs.specs.Lists.{◌∈◌, here, there, ◌⊆◌}
use Rattle.rdfs.specs.Facts.{Fact, cl, pr, csub, psub, dom, rng, ci, pi, excl, graph}
use Rattle.rdfs.specs.Consistency.{Lawful}
use Rattle.rdfs.specs.Tickets.{Ticket, asked, ticket_of}
use Rattle.rdfs.specs.Orders.{MakesProperty, MakesClass}
use Rattle.rdfs.specs.Promises.{Provided}

module _ (K : List Fact) (t : Ticket) (all : asked t ⊆ K) where
  -- The facts of a ticket of kind m.
  at : (m : ℕ) → t.kind ≡ m → (f : Fact) → f ∈ asked (ticket_of t.operation m t.a t.b t.c) → f ∈ K
  at m e f = subst (λ k. asked (ticket_of t.operation k t.a t.b t.c) ⊆ K) e all f

  -- A role of an id that is another's.
  is : (role : ℕ → Fact) {x y : ℕ} → x ≡ y → role y ∈ K → role x ∈ K
  is role e h = subst (λ z. role z ∈ K) (sym e) h

  pub property_made : (p : ℕ) → MakesProperty t p → pr p ∈ K
  property_made p m = is pr m.2 (at 2 m.1 (pr t.a) (here refl))

  module _ (c : Lawful (graph K)) where
    pub class_made : (x : ℕ) → MakesClass t x → cl x ∈ K
    class_made x m = ⊎_elim (λ q. is cl q.1 (at 1 q.0 (cl t.a) (here refl)))
        (⊎_elim (λ q. let ends = c.rule_7 t.a t.b (at 5 q.0 (csub t.a t.b) (here refl)) in
        ⊎_elim (λ e. is cl e ends.0) (λ e. is cl e ends.1) q.1)
        (λ q. ⊎_elim (λ e. is cl e (c.rule_9 t.a t.b (at 2 q.0 (dom t.a t.b) (there (here refl)))).1)
        (λ e. is cl e.0 ((c.rule_10 t.a t.c (at 2 q.0 (rng t.a t.c) (there (there (here refl))))).1
        (λ mark. e.1 (e.0 ∙ mark)))) q.1)) m.1

    pub asked_provided : Provided K t
    asked_provided = record {
      properties = λ p. ⊎_elim
          (λ u. let ends = c.rule_8 t.a t.b (at 6 u.0 (psub t.a t.b) (here refl)) in
          ⊎_elim (λ e. is pr e ends.0) (λ e. is pr e ends.1) u.1)
          (⊎_elim (λ u. is pr u.1 (c.rule_12 t.a t.b t.c (at 10 u.0 (pi t.a t.b t.c) (here refl))).1)
          (λ u. is pr u.1 (c.rule_e1 t.a (at 11 u.0 (excl t.a) (here refl)))));
      classes = λ x u. is cl u.2 (c.rule_11 t.a t.b (at 9 u.1 (ci t.a t.b) (here refl))).1;
    }
