-- The clash by lookups is exact for every kind of ticket: it is found if and only if no lawful graph holds the table and the
-- asked facts. Assumes nothing.
use Prim.Native.Nat.{ℕ}
use mathlib.Core.Path.{◌≡◌, refl}
use mathlib.Core.Bool.{Bool}
use mathlib.Core.Logic.{inl, inr}
use mathlib.Core.List.{List, [], ◌∷◌}
use lib.Dec.{T}
use Rattle.rdfs.specs.Lists.{◌∈◌, here, there}
use Rattle.rdfs.specs.Facts.{Fact, Graph, cl, pr, csub, psub, rng, ci, pi, excl, graph, ◌⊑◌}
use Rattle.rdfs.specs.Consistency.{Lawful}
use Rattle.rdfs.specs.Tickets.{Ticket, asked, property_facts, ticket_of}
use Rattle.rdfs.specs.Clashes.{two_holders}
use Rattle.rdfs.specs.Lookups.{
  other_role,
  domain_of,
  range_of,
  property_clash,
  class_link_clash,
  property_link_clash,
  value_clash,
  lookup_clash,
}
use Rattle.rdfs.specs.Promises.{Provided, Judged, Possible}
use Rattle.rdfs.proofs.Lists.Tests.{Tests, differ, tests_decides}
use Rattle.rdfs.proofs.Words.FactLaws.{in_list, tests_all_has}
use Rattle.rdfs.proofs.Tickets.TicketTests.{by_kind, given_ids}
use Rattle.rdfs.proofs.Consistency.Holders.{tests_two_holders}
use Rattle.rdfs.proofs.Clash.OneRole.{RoleName, class, individual, literal, is, role_kind, tests_other_role}
use Rattle.rdfs.proofs.Clash.LookedUp.{domain_in, range_in}
use Rattle.rdfs.proofs.Clash.LookupTests.{
  tests_property_clash,
  tests_class_link_clash,
  tests_property_link_clash,
  tests_value_clash,
}
use Rattle.rdfs.proofs.Clash.Possible.{role_possible, member_possible, value_possible, property_possible}
use Rattle.rdfs.proofs.Clash.SharedValues.{two_impossible}
use Rattle.rdfs.proofs.Clash.PossibleExclusive.{exclusive_possible}
use Rattle.rdfs.proofs.Clash.PossibleLinks.{class_link_possible, property_link_possible}
use Rattle.rdfs.proofs.Clash.Impossible.{
  role_impossible,
  value_impossible,
  property_impossible,
  class_link_impossible,
  property_link_impossible,
}

-- A test finds a clash of a table with wanted facts exactly where there is one.
pub record Exact (K wanted : List Fact) (clash : Bool) : Type 1 where
  pub sound : T clash → (H : Graph) → Lawful H → ◌⊑◌ (graph K) H → ◌⊑◌ (graph wanted) H → ⊥
  pub complete : (T clash → ⊥) → Possible (graph K) (graph wanted)

exact_of : (K wanted : List Fact) (clash : Bool) (P : Type 0) → Tests clash P → ((H : Graph) → Lawful H → ◌⊑◌ (graph K) H
    → ◌⊑◌ (graph wanted) H → P → ⊥)
    → ((P → ⊥) → Possible (graph K) (graph wanted)) → Exact K wanted clash
exact_of K wanted clash P t no_way way =
    record { sound = λ h H c k w. no_way H c k w (t.sound h); complete = λ n. way (λ p. n (t.complete p)) }

module _ (K : List Fact) (c : Lawful (graph K)) where
  role_exact : (r : RoleName) (a : ℕ) → (2 ≡ role_kind r → ⊥) → Exact K (is r a ∷ []) (other_role K (role_kind r) a)
  role_exact r a n = exact_of K (is r a ∷ []) (other_role K (role_kind r) a) _ (tests_other_role K (role_kind r) a)
      (λ H d k w. role_impossible (graph K) H c d k r a (w _ (here refl))) (role_possible (graph K) c r a n)

  member_exact : (a b : ℕ) → cl b ∈ K → Exact K (ci a b ∷ []) (other_role K 3 a)
  member_exact a b h = exact_of K (ci a b ∷ []) (other_role K 3 a) _ (tests_other_role K 3 a)
      (λ H d k w. role_impossible (graph K) H c d k individual a (d.rule_11 a b (w _ (here refl))).0)
      (member_possible (graph K) c a b h)

  value_exact : (a b z : ℕ) → pr z ∈ K → Exact K (pi a b z ∷ []) (value_clash K a b z)
  value_exact a b z h = exact_of K (pi a b z ∷ []) (value_clash K a b z) _ (tests_value_clash K a b z)
      (λ H d k w. value_impossible (graph K) H c d k a b z h (w _ (here refl))) (value_possible (graph K) c a b z
      (in_list K (rng z 1)) h)

  property_exact : (o a b z : ℕ) → (a ≡ 1 → ⊥) → Exact K (property_facts a b z) (property_clash K (ticket_of o 2 a b z))
  property_exact o a b z n =
      exact_of K (property_facts a b z) (property_clash K (ticket_of o 2 a b z)) _ (tests_property_clash K o a b z)
      (λ H d k w. property_impossible (graph K) H c d k a b z n (w _ (there (here refl))) (w _ (there (there (here refl)))))
      (property_possible (graph K) c a b z (tests_decides (tests_all_has K (property_facts a b z))))

  class_link_exact : (a b : ℕ) → Exact K (csub a b ∷ []) (class_link_clash K a b)
  class_link_exact a b = exact_of K (csub a b ∷ []) (class_link_clash K a b) _ (tests_class_link_clash K a b)
      (λ H d k w. class_link_impossible (graph K) H c d k a b (w _ (here refl))) (class_link_possible (graph K) c a b)

  exclusive_exact : (a : ℕ) → pr a ∈ K → Exact K (excl a ∷ []) (two_holders K a)
  exclusive_exact a h = exact_of K (excl a ∷ []) (two_holders K a) _ (tests_two_holders K a)
      (λ H d k w. two_impossible (graph K) H d k a (w _ (here refl))) (exclusive_possible (graph K) c a h)

  property_link_exact : (a b : ℕ) → pr a ∈ K → pr b ∈ K → Exact K (psub a b ∷ []) (property_link_clash K a b)
  property_link_exact a b ha hb =
      let da : ℕ = domain_of K a in
      let db : ℕ = domain_of K b in
      let ra : ℕ = range_of K a in
      let rb : ℕ = range_of K b in
      exact_of K (psub a b ∷ []) (property_link_clash K a b) _ (tests_property_link_clash K a b)
      (λ H d k w. property_link_impossible (graph K) H c d k a b da db ra rb (domain_in K c a ha) (domain_in K c b hb) (range_in
      K c a ha) (range_in K c b hb) (w _ (here refl)))
      (property_link_possible (graph K) c a b da db ra rb (domain_in K c a ha) (domain_in K c b hb) (range_in K c a ha) (range_in
      K c b hb))

module _ (top : ℕ) (K : List Fact) (t : Ticket) (j : Judged top K t) where
  pub lookup_clash_exact : Exact K (asked t) (lookup_clash K t)
  unfolding lookup_clash
  lookup_clash_exact = by_kind Goal t.kind j.kinds
      (λ u. role_exact K c class a (differ tt))
      (λ u. property_exact K c t.operation a b z (given_ids top t j.ids).a_mark)
      (λ u. role_exact K c individual a (differ tt))
      (λ u. role_exact K c literal a (differ tt))
      (λ u. class_link_exact K c a b)
      (λ u. property_link_exact K c a b (u.properties a (inl (refl, inl refl)))
      (u.properties b (inl (refl, inr refl))))
      (λ u. member_exact K c a b (u.classes b (j.insert, refl, refl)))
      (λ u. value_exact K c a b z (u.properties z (inr (inl (refl, refl)))))
      (λ u. exclusive_exact K c a (u.properties a (inr (inr (refl, refl))))) j.provided
    where
      a : ℕ
      a = t.a

      b : ℕ
      b = t.b

      z : ℕ
      z = t.c

      c : Lawful (graph K)
      c = j.consistent

      Goal : ℕ → Type 1
      Goal k = let u : Ticket = ticket_of t.operation k a b z in
          Provided K u → Exact K (asked u) (lookup_clash K u)

-- A clash that the lookups find is real.
pub lookup_clash_sound : (top : ℕ) (K : List Fact) (t : Ticket) → Judged top K t → T (lookup_clash K t) → (H : Graph)
    → Lawful H → ◌⊑◌ (graph K) H → ◌⊑◌ (graph (asked t)) H → ⊥
lookup_clash_sound top K t j = (lookup_clash_exact top K t j).sound

-- Where they find none, some lawful graph holds the table and the asked facts.
pub lookup_clash_complete : (top : ℕ) (K : List Fact) (t : Ticket) → Judged top K t → (T (lookup_clash K t) → ⊥) → (H : Graph)
    × Lawful H × ◌⊑◌ (graph K) H × ◌⊑◌ (graph (asked t)) H
lookup_clash_complete top K t j = (lookup_clash_exact top K t j).complete
