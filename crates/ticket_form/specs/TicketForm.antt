-- A ticket in code and in the definitions, and the refusals that need no table.
use Rattle.std.specs.Prelude.{ℕ, ◌≡◌, List, [], ◌∷◌}
use Rattle.rdfs.specs.Numbers.{product}
use Rattle.rdfs.specs.Tickets as defs
use Rattle.rdfs.specs.Refusals.{first_true, form_tests}
use Rattle.table.specs.Counted.{Full}
use Rattle.ticket_form.specs.declared.fields.Ticket.{Ticket}

-- The ticket of the definitions.
abbrev pub sense : Ticket → defs.Ticket
sense ticket = record {
  operation = ticket.operation;
  kind = ticket.kind;
  a = ticket.a;
  b = ticket.b;
  c = ticket.c;
}

-- A record by its fields.
abbrev pub record_of : (operation k a b c : ℕ) → List ℕ
record_of operation k a b c = operation ∷ k ∷ a ∷ b ∷ c ∷ []

-- The bytes of a ticket.
abbrev pub bytes_of : Ticket → List ℕ
bytes_of ticket = record_of ticket.operation ticket.kind ticket.a ticket.b ticket.c

-- Refusals 5 to 8, or 0.
abbrev pub form_refusal : defs.Ticket → ℕ
form_refusal ticket = first_true (form_tests product ticket)

-- The facts of a table, and a ticket past the first eight refusals.
pub record Asked (words : List ℕ) (operation k a b c : ℕ) : Type 0 where
  pub facts : Full words
  pub formed : form_refusal (defs.ticket_of operation k a b c) ≡ 0
