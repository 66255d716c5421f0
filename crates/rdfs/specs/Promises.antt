-- What the theorems speak of beside the definitions: tickets past a refusal, graphs that can be had, what
-- holds after a ticket.
use Rattle.std.specs.Prelude.{ℕ, ◌≡◌, ◌⊎◌, List, T}
use Rattle.rdfs.specs.Numbers.{Numbers, ticket_kinds}
use Rattle.rdfs.specs.Lists.{◌∈◌, ◌⊆◌}
use Rattle.rdfs.specs.Facts.{Fact, Graph, cl, pr, dom, rng, excl, graph, ◌⊑◌}
use Rattle.rdfs.specs.Consistency.{Lawful, Consistent}
use Rattle.rdfs.specs.Words.{allowed, facts}
use Rattle.rdfs.specs.Tickets.{
  Ticket,
  decoded,
  inserts,
  deletes,
  named,
  asked,
  bad_length,
  bad_operation,
  bad_kind,
  bad_ids,
  guarded,
  unknown_property,
  unknown_class,
}
use Rattle.rdfs.specs.Register.{Answer, step, Table}
use Rattle.rdfs.specs.Orders.{UsesProperty, UsesClass}

-- Past refusal 8: the bytes are a ticket, and it names something that may be changed.
pub record Formed (N : Numbers) (bytes : List ℕ) : Type 0 where
  pub long : T (bad_length bytes) → ⊥
  pub operation : T (bad_operation (decoded bytes)) → ⊥
  pub kind : T (bad_kind (decoded bytes)) → ⊥
  pub ids : T (bad_ids N.top (decoded bytes)) → ⊥
  pub free : T (guarded (decoded bytes)) → ⊥

-- Past refusals 9 and 16.
pub record Known (K : List Fact) (ticket : Ticket) : Type 0 where
  pub property : T (unknown_property K ticket) → ⊥
  pub class : T (unknown_class K ticket) → ⊥

-- Every property and every class that the ticket uses stands.
pub record Provided (K : List Fact) (ticket : Ticket) : Type 0 where
  pub properties : (p : ℕ) → UsesProperty ticket p → pr p ∈ K
  pub classes : (x : ℕ) → UsesClass ticket x → cl x ∈ K

-- An insertion past refusals 9 and 16, on the facts of a consistent table.
pub record Judged (top : ℕ) (K : List Fact) (ticket : Ticket) : Type 0 where
  pub consistent : Consistent (graph K)
  pub insert : T (inserts ticket)
  pub kinds : ticket.kind ∈ ticket_kinds
  pub ids : T (bad_ids top ticket) → ⊥
  pub provided : Provided K ticket

-- Some lawful graph holds G and A.
abbrev pub Possible : Graph → Graph → Type 1
Possible G A = (H : Graph) × Lawful H × ◌⊑◌ G H × ◌⊑◌ A H

-- Some lawful graph of facts that a table can have: ids up to the highest, the mark in its place.
abbrev pub PossibleUpTo : ℕ → Graph → Graph → Type 1
PossibleUpTo top G A = (H : Graph) × Lawful H × ◌⊑◌ G H × ◌⊑◌ A H × ((f : Fact) → H f → T (allowed top f))

-- What takes Excl(z) out of a table of facts K: it is deleted itself, or its property, or the class that is
-- its property's domain or range.
abbrev pub TakesExclusive : List Fact → ℕ → Fact → Type 0
TakesExclusive K z gone =
    (gone ≡ excl z) ⊎ ((gone ≡ pr z) ⊎ ((b : ℕ) × (gone ≡ cl b) × ((dom z b ∈ K) ⊎ (rng z b ∈ K))))

-- A ticket that changes nothing.
abbrev pub unchanged : List ℕ → Answer
unchanged table = record { number = 0; added = 0; removed = 0; table = table }

-- What holds after one ticket on the words of a table.
pub record After (N : Numbers) (table bytes : List ℕ) : Type 0 where
  pub rules : Table N (step N table bytes).table
  pub refused : ((step N table bytes).number ≡ 0 → ⊥)
      → ((step N table bytes).table ≡ table) × ((step N table bytes).added ≡ 0)
      × ((step N table bytes).removed ≡ 0)
  pub there_are : (step N table bytes).number ≡ 0 → T (inserts (decoded bytes))
      → asked (decoded bytes) ⊆ facts N (step N table bytes).table
  pub is_gone : (step N table bytes).number ≡ 0 → T (deletes (decoded bytes))
      → named (decoded bytes) ∈ facts N (step N table bytes).table → ⊥
  pub grows : T (inserts (decoded bytes))
      → ((step N table bytes).removed ≡ 0) × (facts N table ⊆ facts N (step N table bytes).table)
  pub shrinks : T (deletes (decoded bytes))
      → ((step N table bytes).added ≡ 0) × (facts N (step N table bytes).table ⊆ facts N table)
