-- The theorems on the definitions, for any highest id from 1 on, any base above it and any most words. Each is proved in the file
-- that its proof names; docs/THEOREMS.md says what each rules out. Assumes nothing.
use Prim.Native.Nat.{ℕ}
use mathlib.Core.Path.{◌≡◌, refl}
use mathlib.Core.Bool.{Bool, true, false}
use mathlib.Core.Logic.{◌⊎◌, inl, inr}
use mathlib.Core.List.{List}
use native.Mathlib.Omega.{arith}
use lib.Dec.{T}
use lib.ListN.{length}
use Rattle.rdfs.specs.Numbers.{Numbers, Sound, product, arity}
use Rattle.rdfs.specs.Lists.{◌∈◌, ◌⊆◌}
use Rattle.rdfs.specs.Facts.{Fact, cl, pr, ind, lit, csub, psub, dom, rng, ci, pi, excl, kind, ids, graph, ◌⊑◌}
use Rattle.rdfs.specs.Consistency.{Consistent, Smallest, Largest, keeps}
use Rattle.rdfs.specs.Words.{facts}
use Rattle.rdfs.specs.Clashes.{clashes, is_consistent}
use Rattle.rdfs.specs.Insertion.{insertion}
use Rattle.rdfs.specs.Tickets.{Ticket, decoded, inserts, deletes, named, asked}
use Rattle.rdfs.specs.Register.{step, run, Table}
use Rattle.rdfs.specs.Lookups.{lookup_clash}
use Rattle.rdfs.specs.Orders.{SameTickets, MakesProperty, MakesClass, InOrder, AllInsertions, AllAccepted}
use Rattle.rdfs.specs.Promises.{After, Formed, Known, Judged, Possible, PossibleUpTo, unchanged}
use Rattle.rdfs.proofs.Lists.Tests.{tests_self, tests_agree}
use Rattle.rdfs.proofs.Consistency.LawfulParts.{All}
use Rattle.rdfs.proofs.Words.Allowed.{Allowed}
use Rattle.rdfs.proofs.Consistency.Decision.{check_sound, check_complete}
use Rattle.rdfs.proofs.Insertion.InsertionSmallest.{insertion_smallest, insertion_clash}
use Rattle.rdfs.proofs.Tickets.TicketTests.{asked_allowed, provided_known}
use Rattle.rdfs.proofs.Tickets.UnknownClass.{sixteen_unknown, sixteen_only, sixteen_if}
use Rattle.rdfs.proofs.Insertion.AskedSeeds.{asked_seeds}
use Rattle.rdfs.proofs.Tickets.Steps.{refused_keeps}
use Rattle.rdfs.proofs.Insertion.InsertionSteps.{
  accepted_smallest,
  refused_impossible,
  impossible_refused,
  eleven_impossible,
}
use Rattle.rdfs.proofs.Deletion.DeletionSteps.{deletion_accepted, accepted_largest, repeated_deletion}
use Rattle.rdfs.proofs.Insertion.Makes.{class_made, asked_provided}
use Rattle.rdfs.proofs.Insertion.MadeBy as made
use Rattle.rdfs.proofs.Insertion.Within.{repeated_insertion}
use Rattle.rdfs.proofs.Register.AfterEach.{after_each}
use Rattle.rdfs.proofs.Register.Rearrangement
use Rattle.rdfs.proofs.Register.AcceptedOrder as ordered
use Rattle.rdfs.proofs.Clash.LookupClash.{lookup_clash_sound, lookup_clash_complete}

-- The product's numbers are such.
pub product_sound : Sound product
product_sound = record { mark = omega arith; digit = omega arith }

-- A fact has as many ids as its kind says.
pub arity_is : (f : Fact) → arity (kind f) ≡ length (ids f)
arity_is (cl a) = refl
arity_is (pr a) = refl
arity_is (ind a) = refl
arity_is (lit a) = refl
arity_is (csub a b) = refl
arity_is (psub a b) = refl
arity_is (dom a b) = refl
arity_is (rng a b) = refl
arity_is (ci a b) = refl
arity_is (pi a b c) = refl
arity_is (excl a) = refl

-- The decision `is_consistent` is consistency.
pub decision_exact : (K : List Fact) → (T (is_consistent K) → Consistent (graph K)) × (Consistent (graph K) → T (is_consistent K))
decision_exact K = (check_sound K, check_complete K)

module _ (N : Numbers) (s : Sound N) (table bytes : List ℕ) (q : Table N table) where
  -- An insertion that is not refused leaves the smallest consistent graph that holds the table and the asked facts.
  pub insertion_is_smallest : T (inserts (decoded bytes)) → (step N table bytes).number ≡ 0
      → Smallest (graph (facts N table)) (graph (asked (decoded bytes))) (graph (facts N (step N table bytes).table))
  insertion_is_smallest i e = accepted_smallest N s table bytes q i e

  -- A ticket past refusal 8 is refused with 16 exactly if it inserts CI with an id that is no class of the table, whatever else
  -- that id is and however full the table is.
  pub sixteen_is_exact : Formed N bytes
      → ((step N table bytes).number ≡ 16
      → T (inserts (decoded bytes)) × ((decoded bytes).kind ≡ 9) × (cl (decoded bytes).b ∈ facts N table → ⊥))
      × (T (inserts (decoded bytes)) → (decoded bytes).kind ≡ 9 → (cl (decoded bytes).b ∈ facts N table → ⊥)
      → (step N table bytes).number ≡ 16)
  sixteen_is_exact f = (sixteen_only N table bytes, sixteen_if N table bytes q f)

  -- An insertion whose asked facts are there is never refused with 16, whatever else is wrong with it.
  pub repeat_is_never_sixteen : T (inserts (decoded bytes)) → asked (decoded bytes) ⊆ facts N table
      → (step N table bytes).number ≡ 16 → ⊥
  repeat_is_never_sixteen i all e =
      let t : Ticket = decoded bytes in
      (provided_known (facts N table) t i (asked_provided (facts N table) t all q.consistent)).class
      (sixteen_unknown N table bytes e)

  -- An accepted ticket leaves each class that it makes: that of kind 1, both of CSub, the domain and, but for the mark, the range
  -- of a property.
  pub made_stands : (step N table bytes).number ≡ 0 → (x : ℕ) → MakesClass (decoded bytes) x
      → cl x ∈ facts N (step N table bytes).table
  made_stands e x m =
      let a = accepted_smallest N s table bytes q m.0 e in
      class_made (facts N (step N table bytes).table) (decoded bytes) a.holds_asked a.consistent x m

  -- It leaves no other new class, and no new property but the one that it makes: a member never brings its class into being.
  pub class_by_maker : T (inserts (decoded bytes)) → (step N table bytes).number ≡ 0 → (x : ℕ)
      → cl x ∈ facts N (step N table bytes).table → (cl x ∈ facts N table) ⊎ MakesClass (decoded bytes) x
  class_by_maker = made.class_by_maker N s table bytes q

  pub property_by_maker : T (inserts (decoded bytes)) → (step N table bytes).number ≡ 0 → (p : ℕ)
      → pr p ∈ facts N (step N table bytes).table → (pr p ∈ facts N table) ⊎ MakesProperty (decoded bytes) p
  property_by_maker = made.property_by_maker N s table bytes q

  -- An insertion past refusals 9 and 16 is refused with 10 exactly if no lawful graph holds the table and the asked facts: 10 if
  -- none does, whatever its ids; else one does whose facts a table can have.
  pub ten_is_exact : T (inserts (decoded bytes)) → Formed N bytes → Known (facts N table) (decoded bytes)
      → ((step N table bytes).number ≡ 10 → Possible (graph (facts N table)) (graph (asked (decoded bytes))) → ⊥)
      × (((step N table bytes).number ≡ 10 → ⊥) → PossibleUpTo N.top (graph (facts N table)) (graph (asked (decoded bytes))))
  ten_is_exact i f u = (refused_impossible N s table bytes q i f, impossible_refused N s table bytes q i f u)

  -- An insertion is refused with 11 only if no table of as many words holds a consistent graph with the table's facts and the
  -- asked ones.
  pub eleven_only_if_full : T (inserts (decoded bytes)) → (step N table bytes).number ≡ 11
      → (v : List ℕ) → Table N v → length v ≡ length table → ◌⊑◌ (graph (facts N table)) (graph (facts N v))
      → ◌⊑◌ (graph (asked (decoded bytes))) (graph (facts N v)) → ⊥
  eleven_only_if_full i = eleven_impossible N s table bytes q i

  -- A deletion past refusal 8 is never refused, and leaves the largest consistent part of its family without the fact.
  pub deletion_is_largest : T (deletes (decoded bytes)) → Formed N bytes
      → ((step N table bytes).number ≡ 0) × Largest (graph (facts N table)) (named (decoded bytes)) (keeps (named (decoded bytes)))
      (graph (facts N (step N table bytes).table))
  deletion_is_largest d f = (deletion_accepted N s table bytes q d f, accepted_largest N s table bytes q d f)

  -- A ticket whose facts are all there, or whose fact is gone, is accepted past refusal 8 and changes nothing.
  pub repeat_changes_nothing : Formed N bytes → (T (inserts (decoded bytes)) × (asked (decoded bytes) ⊆ facts N table))
      ⊎ (T (deletes (decoded bytes)) × (named (decoded bytes) ∈ facts N table → ⊥)) → step N table bytes ≡ unchanged table
  repeat_changes_nothing f (inl h) = repeated_insertion N s table bytes q h.0 f h.1
  repeat_changes_nothing f (inr h) = repeated_deletion N s table bytes q h.0 f h.1

-- A refusal, on any words whatever, changes no word, and both counts are 0.
pub refusal_changes_nothing : (N : Numbers) (table bytes : List ℕ) → ((step N table bytes).number ≡ 0 → ⊥)
    → ((step N table bytes).table ≡ table)
    × ((step N table bytes).added ≡ 0) × ((step N table bytes).removed ≡ 0)
refusal_changes_nothing N table bytes n = let k = refused_keeps N table bytes n in (k.table, k.added, k.removed)

-- After every ticket of a list, whatever its bytes: see `After` for the six promises.
pub every_ticket : (N : Numbers) → Sound N → (table : List ℕ) → Table N table → (before : List (List ℕ)) (ticket : List ℕ)
    → After N (run N table before).table ticket
every_ticket = after_each

-- Insertions only, all accepted: every rearrangement in order, each property and each class made before it is used, is accepted
-- whole and ends in the same words.
pub rearranged_the_same : (N : Numbers) → Sound N → (table : List ℕ) → Table N table → (l m : List (List ℕ)) → AllInsertions l
    → AllAccepted (run N table l).numbers → SameTickets l m → InOrder (facts N table) m
    → AllAccepted (run N table m).numbers × ((run N table m).table ≡ (run N table l).table)
rearranged_the_same = Rearrangement.rearrangement

-- Insertions only: a list that is accepted whole is in order. So, of the rearrangements of one, those in order are accepted whole
-- and no other.
pub accepted_in_order : (N : Numbers) → Sound N → (table : List ℕ) → Table N table → (l : List (List ℕ)) → AllInsertions l
    → AllAccepted (run N table l).numbers → InOrder (facts N table) l
accepted_in_order = ordered.accepted_in_order

-- The clash by lookups is the register's.
pub lookup_clash_is_clash : (top : ℕ) (K : List Fact) (ticket : Ticket) → All (Allowed top) K → Judged top K ticket
    → lookup_clash K ticket ≡ clashes (insertion top K (asked ticket))
lookup_clash_is_clash top K ticket aK j =
    let an : All (Allowed top) (asked ticket) = asked_allowed top ticket j.insert j.kinds j.ids in
    tests_agree (tests_self (lookup_clash K ticket)) record {
      sound = λ h. stands (lookup_clash K ticket) (λ n.
          let p = lookup_clash_complete top K ticket j n in
          insertion_clash top K (asked ticket) aK an h p.0 p.1 p.2 p.3);
      complete = λ h. stands (clashes (insertion top K (asked ticket))) (λ n.
          let seeds = asked_seeds K ticket j.consistent j.kinds j.provided in
          let m = insertion_smallest top K (asked ticket) aK an seeds n in
          lookup_clash_sound top K ticket j h (graph (insertion top K (asked ticket))) m.consistent m.holds_table
          m.holds_asked);
    }
  where
    stands : (b : Bool) → ((T b → ⊥) → ⊥) → T b
    stands true h = tt
    stands false h = absurd (h (λ e. e))
