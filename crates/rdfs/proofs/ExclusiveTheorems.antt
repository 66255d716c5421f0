-- The theorems on exclusive properties: a value has one holder, after every ticket; when Excl is refused, what it brings, and
-- what takes it away. docs/THEOREMS.md says what each rules out. Assumes nothing.
use Prim.Native.Nat.{ℕ}
use mathlib.Core.Path.{◌≡◌, refl, sym, ap, subst, ◌∙◌}
use mathlib.Core.Logic.{◌⊎◌, inl, inr, ⊎_elim}
use mathlib.Core.List.{List, [], ◌∷◌}
use native.Mathlib.Omega.{arith}
use native.Mathlib.Decide.{ℕ_discrete}
use lib.Dec.{T}
use Rattle.rdfs.specs.Numbers.{Numbers, Sound}
use Rattle.rdfs.specs.Lists.{◌∈◌}
use Rattle.rdfs.specs.Lists as lists
use Rattle.rdfs.specs.Facts.{Fact, Graph, pr, pi, excl, graph, ◌⊑◌}
use Rattle.rdfs.specs.Consistency.{Largest, keeps}
use Rattle.rdfs.specs.Words.{facts}
use Rattle.rdfs.specs.Clashes.{two_holders}
use Rattle.rdfs.specs.Tickets.{Ticket, decoded, inserts, deletes, named, asked, ticket_of}
use Rattle.rdfs.specs.Refusals.{here}
use Rattle.rdfs.specs.Register.{step, run, Table}
use Rattle.rdfs.specs.Promises.{Formed, Known, TakesExclusive}
use Rattle.rdfs.proofs.Lists.Tests.{tests_decides}
use Rattle.rdfs.proofs.Lists.ListLaws.{in_one}
use Rattle.rdfs.proofs.Consistency.Holders.{tests_two_holders}
use Rattle.rdfs.proofs.Tickets.FirstTrue.{first_holds}
use Rattle.rdfs.proofs.Tickets.TicketTests.{
  tests_unknown_property,
  tests_unknown_class,
  known_operation,
  known_provided,
}
use Rattle.rdfs.proofs.Tickets.TicketRefusals.{tests, past_form, passed}
use Rattle.rdfs.proofs.Tickets.Steps.{table_sane, step_number}
use Rattle.rdfs.proofs.Insertion.InsertionSteps.{accepted_smallest, refused_impossible, impossible_refused}
use Rattle.rdfs.proofs.Deletion.LeftLargest.{Left, left_lawful}
use Rattle.rdfs.proofs.Deletion.DeletedExclusive.{ExclusiveGone, exclusive_goes, gone_itself}
use Rattle.rdfs.proofs.Deletion.ExclusiveTaken.{exclusive_taken}
use Rattle.rdfs.proofs.Deletion.DeletionSteps.{accepted_largest, deletion_leaves}
use Rattle.rdfs.proofs.Clash.SharedValues.{two_impossible}
use Rattle.rdfs.proofs.Clash.PossibleExclusive.{
  Exclusively,
  exclusively_holds,
  exclusively_only,
  exclusively_lawful,
}
use Rattle.rdfs.proofs.Register.AfterEach.{after, run_table}

-- After every list of tickets, whatever their bytes, accepted or not, a value has one holder at most through an exclusive
-- property: a port has one poller.
pub one_holder_after_each : (N : Numbers) → Sound N → (table : List ℕ) → Table N table → (l : List (List ℕ)) (x y z w : ℕ)
    → excl z ∈ facts N (run N table l).table → pi x y z ∈ facts N (run N table l).table
    → pi w y z ∈ facts N (run N table l).table → x ≡ w
one_holder_after_each N s table q l = (run_table N s l table q).consistent.rule_e2

-- A ticket by its kind.
asked_exclusive : (t : Ticket) → t.kind ≡ 11 → asked t ≡ excl t.a ∷ []
asked_exclusive t e = ap (λ k. asked (ticket_of t.operation k t.a t.b t.c)) e

named_exclusive : (t : Ticket) → t.kind ≡ 11 → named t ≡ excl t.a
named_exclusive t e = ap (λ k. named (ticket_of t.operation k t.a t.b t.c)) e

named_property : (t : Ticket) → t.kind ≡ 2 → named t ≡ pr t.a
named_property t e = ap (λ k. named (ticket_of t.operation k t.a t.b t.c)) e

module _ (N : Numbers) (s : Sound N) (table bytes : List ℕ) (q : Table N table) where
  abbrev K : List Fact
  K = facts N table

  abbrev t : Ticket
  t = decoded bytes

  abbrev left : List Fact
  left = facts N (step N table bytes).table

  module _ (k : t.kind ≡ 11) where
    -- Inserting Excl past refusal 8 is refused with 9 exactly if its id is no property of the table, whatever else it is.
    pub exclusive_nine_is_exact : T (inserts t) → Formed N bytes → ((step N table bytes).number ≡ 9 → pr t.a ∈ K → ⊥)
        × ((pr t.a ∈ K → ⊥) → (step N table bytes).number ≡ 9)
    exclusive_nine_is_exact i f = (
      (λ e h. ⊎_elim (λ u. omega (arith, k, u.0)) (⊎_elim (λ u. omega (arith, k, u.0)) (λ u. u.1 h))
          ((tests_unknown_property K t).sound (first_holds (tests N table bytes) tt 9 (omega arith)
          (sym (step_number N table bytes) ∙ e))).1),
      (λ n. step_number N table bytes ∙ past_form N table bytes (table_sane N table q) f
          (here ((tests_unknown_property K t).complete (i, inr (inr (k, n)))))),
    )

    known : pr t.a ∈ K → Known K t
    known h = record {
      property = λ u. ⊎_elim (λ p. omega (arith, k, p.0)) (⊎_elim (λ p. omega (arith, k, p.0)) (λ p. p.1 h))
          ((tests_unknown_property K t).sound u).1;
      class = λ u. omega (arith, k, ((tests_unknown_class K t).sound u).1.0);
    }

    -- It asks for Excl and nothing else.
    held : (H : Graph) → ◌⊑◌ (graph (asked t)) H → H (excl t.a)
    held H w = w (excl t.a) (subst (λ l. excl t.a ∈ l) (sym (asked_exclusive t k)) (lists.here refl))

    only : (H : Graph) → H (excl t.a) → ◌⊑◌ (graph (asked t)) H
    only H h g m = subst H (sym (in_one (subst (λ l. g ∈ l) (asked_exclusive t k) m))) h

    -- For a property of the table it is refused with 10 exactly if a value of the property has two holders.
    pub exclusive_ten_is_exact : T (inserts t) → Formed N bytes → pr t.a ∈ K
        → ((step N table bytes).number ≡ 10 → T (two_holders K t.a)) × (T (two_holders K t.a)
        → (step N table bytes).number ≡ 10)
    exclusive_ten_is_exact i f h = (
      (λ e. elim (tests_decides (tests_two_holders K t.a)) [
        | yes p ↦ (tests_two_holders K t.a).complete p
        | no n ↦ absurd (refused_impossible N s table bytes q i f e (
          Exclusively (graph K) t.a,
          exclusively_lawful (graph K) q.consistent t.a h n,
          exclusively_holds (graph K) t.a,
          only (Exclusively (graph K) t.a) (inr refl),
        ))
      ]),
      (λ two. elim (ℕ_discrete (step N table bytes).number 10) [
        | yes e ↦ e
        | no n ↦ let p = impossible_refused N s table bytes q i f (known h) n in
            absurd (two_impossible (graph K) p.0 p.1 p.2 t.a (held p.0 p.3)
            ((tests_two_holders K t.a).sound two))
      ]),
    )

    -- Accepted, it adds no other fact.
    pub exclusive_added_alone : T (inserts t) → (step N table bytes).number ≡ 0 → (g : Fact) → g ∈ left
        → (g ∈ K) ⊎ (g ≡ excl t.a)
    exclusive_added_alone i e g h =
        let a = accepted_smallest N s table bytes q i e in
        let x : excl t.a ∈ left = held (graph left) a.holds_asked in
        let p : pr t.a ∈ K = (known_provided K t i (passed N table bytes (sym (step_number N table bytes)
        ∙ e)).known).properties
        t.a (inr (inr (k, refl))) in
        exclusively_only (graph K) t.a g (a.least (Exclusively (graph K) t.a)
        (exclusively_lawful (graph K) q.consistent t.a p
        (two_impossible (graph K) (graph left) a.consistent a.holds_table t.a x))
        (exclusively_holds (graph K) t.a) (only (Exclusively (graph K) t.a) (inr refl)) g h)

    -- Deleting it takes that fact and no other.
    pub exclusive_deleted_alone : T (deletes t) → Formed N bytes → (g : Fact)
        → (g ∈ left → (g ∈ K) × (g ≡ excl t.a → ⊥)) × (g ∈ K → (g ≡ excl t.a → ⊥) → g ∈ left)
    exclusive_deleted_alone d f g =
        let a = subst (λ n. Largest (graph K) n (keeps n) (graph left)) (named_exclusive t k)
        (accepted_largest N s table bytes q d
        f) in
        let Gone : Graph = ExclusiveGone t.a in
        let goes = exclusive_goes (graph K) t.a in (
          (λ h. (a.part g h, λ e. a.without (subst (λ n. n ∈ left) e h))),
          (λ h n. a.greatest (Left Gone (graph K)) (left_lawful Gone (graph K) q.consistent goes.downward) (λ f m. m.0)
              (λ m. m.1 goes.asked_gone) (λ f m r. (m, goes.kept_stays f r)) g (h, λ o. n (gone_itself t.a g o))),
        )

  -- A deleted property takes its Excl along.
  pub property_takes_exclusive : T (deletes t) → t.kind ≡ 2 → (step N table bytes).number ≡ 0 → excl t.a ∈ left → ⊥
  property_takes_exclusive d k e h =
      let a = after N s table bytes q in
      a.is_gone e d (subst (λ n. n ∈ left) (sym (named_property t k)) (a.rules.consistent.rule_e1 t.a h))

  -- Excl leaves a table only by a deletion of itself, of its property, or of a class that is its property's domain or range.
  pub exclusive_taken_by : (z : ℕ) → excl z ∈ K → (excl z ∈ left → ⊥) → T (deletes t) × TakesExclusive K z (named t)
  exclusive_taken_by z h n = elim (ℕ_discrete (step N table bytes).number 0) [
    | no r ↦ absurd (n (subst (λ w. excl z ∈ facts N w) (sym ((after N s table bytes q).refused r).0) h))
    | yes e ↦ let f = (passed N table bytes (sym (step_number N table bytes) ∙ e)).formed in
        ⊎_elim (λ i. absurd (n (((after N s table bytes q).grows i).1 (excl z) h)))
        (λ d. (d, exclusive_taken K q.consistent z h (named t) (λ m. n (deletion_leaves N s table bytes q d f (excl z) m))))
        (known_operation t f.operation)
  ]
