-- An operator's insertion puts in no fact of another kind. The idea: that a fact is an individual, a literal, a membership in a
-- class of the table, a value of a property of the table, or stands in the table holds of the table and of what operators ask
-- for, and of whatever the rules demand beside facts of which it holds. Assumes nothing.
use Prim.Native.Nat.{ℕ}
use mathlib.Core.Path.{◌≡◌, refl, sym, subst, ◌∙◌}
use mathlib.Core.Bool.{not}
use mathlib.Core.Logic.{inl, inr, ⊎_elim}
use mathlib.Core.List.{List, [], ◌∷◌}
use lib.Dec.{T, eqb}
use Rattle.rdfs.specs.Numbers.{Numbers, Sound, operator_kinds}
use Rattle.rdfs.specs.Lists.{◌∈◌, member}
use Rattle.rdfs.specs.Facts.{Fact, cl, pr, ind, lit, csub, psub, dom, rng, ci, pi, excl, kind, Graph, graph}
use Rattle.rdfs.specs.Consistency.{Consistent}
use Rattle.rdfs.specs.Words.{facts}
use Rattle.rdfs.specs.Tickets.{Ticket, decoded, inserts, asked, ticket_of}
use Rattle.rdfs.specs.Register.{step, Table}
use Rattle.rdfs.specs.Promises.{Provided}
use Rattle.rdfs.proofs.Lists.ListLaws.{in_cons, in_one}
use Rattle.rdfs.proofs.Consistency.LawfulParts.{Demands, All}
use Rattle.rdfs.proofs.Tickets.TicketRefusals.{Passed, passed}
use Rattle.rdfs.proofs.Tickets.TicketTests.{known_provided}
use Rattle.rdfs.proofs.Tickets.Steps.{table_allowed, step_number}
use Rattle.rdfs.proofs.Insertion.InsertionSmallest.{insertion_in}
use Rattle.rdfs.proofs.Insertion.InsertionSteps.{ask_allowed, accepted_inserted}

-- What operators can enter beside the facts of K.
abbrev Entered : List Fact → Graph
Entered K (cl x) = cl x ∈ K
Entered K (pr x) = pr x ∈ K
Entered K (ind x) = Unit {0}
Entered K (lit x) = Unit {0}
Entered K (csub x y) = csub x y ∈ K
Entered K (psub x y) = psub x y ∈ K
Entered K (dom x y) = dom x y ∈ K
Entered K (rng x y) = rng x y ∈ K
Entered K (ci x y) = cl y ∈ K
Entered K (pi x y z) = pr z ∈ K
Entered K (excl x) = excl x ∈ K

-- Of another kind than theirs, it stands in K.
entered_other : (K : List Fact) (f : Fact) → T (not (member operator_kinds (kind f))) → Entered K f → f ∈ K
entered_other K (cl x) o h = h
entered_other K (pr x) o h = h
entered_other K (ind x) o h = absurd o
entered_other K (lit x) o h = absurd o
entered_other K (csub x y) o h = h
entered_other K (psub x y) o h = h
entered_other K (dom x y) o h = h
entered_other K (rng x y) o h = h
entered_other K (ci x y) o h = absurd o
entered_other K (pi x y z) o h = absurd o
entered_other K (excl x) o h = h

module _ (K : List Fact) (c : Consistent (graph K)) where
  table_entered : All (Entered K) K
  table_entered (cl x) h = h
  table_entered (pr x) h = h
  table_entered (ind x) h = tt
  table_entered (lit x) h = tt
  table_entered (csub x y) h = h
  table_entered (psub x y) h = h
  table_entered (dom x y) h = h
  table_entered (rng x y) h = h
  table_entered (ci x y) h = (c.rule_11 x y h).1
  table_entered (pi x y z) h = (c.rule_12 x y z h).1
  table_entered (excl x) h = h

  -- The rules demand nothing else: domains, ranges, superclasses and superproperties stand.
  entered_demands : Demands (Entered K)
  entered_demands = record {
    d7 = c.rule_7;
    d8 = c.rule_8;
    d9 = c.rule_9;
    d10 = c.rule_10;
    d11 = λ x y h. (tt, h);
    d12 = λ x y z h. (tt, h);
    d13 = c.rule_13;
    d14 = λ x h. c.rule_h1;
    d18 = c.rule_18;
    d20 = c.rule_20;
    d22 = c.rule_22;
    d23 = c.rule_23;
    d24 = λ x y z w h k. (c.rule_9 z w h).1;
    d25 = λ x y z w h n k. (c.rule_10 z w h).1 n;
    d26 = λ x y z h k. (c.rule_7 y z h).1;
    d27 = λ x y z w h k. (c.rule_8 z w h).1;
    dh3 = λ x y z h k. tt;
    de1 = c.rule_e1;
  }

-- A claim of each of their kinds.
pub by_their_kind {ℓ} : (P : ℕ → Type ℓ) (k : ℕ) → k ∈ operator_kinds → P 3 → P 4 → P 9 → P 10 → P k
by_their_kind P k h p3 p4 p9 p10 =
    ⊎_elim (λ e. subst P (sym e) p3) (λ h. ⊎_elim (λ e. subst P (sym e) p4) (λ h. ⊎_elim (λ e. subst P (sym e) p9)
    (λ h. subst P (sym (in_one h)) p10) (in_cons h)) (in_cons h)) (in_cons h)

-- What an operator's insertion asks for.
asked_entered : (K : List Fact) (o k a b c : ℕ) → T (eqb o 1) → k ∈ operator_kinds → Provided K (ticket_of o k a b c)
    → All (Entered K) (asked (ticket_of o k a b c))
asked_entered K o k a b c i h = by_their_kind (λ k. Provided K (ticket_of o k a b c)
    → All (Entered K) (asked (ticket_of o k a b c)))
    k h
    (λ u. single (ind a) tt)
    (λ u. single (lit a) tt)
    (λ u. single (ci a b) (u.classes b (i, refl, refl)))
    (λ u. single (pi a b c) (u.properties c (inr (inl (refl, refl)))))
  where
    single : (f : Fact) → Entered K f → All (Entered K) (f ∷ [])
    single f e g m = subst (Entered K) (sym (in_one m)) e

-- One accepted insertion of an operator.
pub enters : (N : Numbers) → Sound N → (w bytes : List ℕ) → Table N w → T (inserts (decoded bytes))
    → (decoded bytes).kind ∈ operator_kinds → (step N w bytes).number ≡ 0
    → (f : Fact) → T (not (member operator_kinds (kind f))) → f ∈ facts N (step N w bytes).table → f ∈ facts N w
enters N s w bytes t i h e f o m =
    let K : List Fact = facts N w in
    let d : Ticket = decoded bytes in
    let past : Passed N w bytes = passed N w bytes (sym (step_number N w bytes) ∙ e) in
    entered_other K f o (insertion_in N.top K (asked d) (table_allowed N s w t) (ask_allowed N s w bytes t i past.formed)
    (Entered K) (entered_demands K t.consistent) (table_entered K t.consistent)
    (asked_entered K d.operation d.kind d.a d.b d.c i h (known_provided K d i past.known))
    f (accepted_inserted N s w bytes t i e f m))
