-- A ticket, what it asks for, and the refusals that its sender and the state of the graph can cause.
use Rattle.std.specs.Prelude.{ℕ, Bool, not, ◌&&◌, ◌||◌, cond, List, [], ◌∷◌, eqb, ltb, length, get_or}
use Rattle.rdfs.specs.Numbers.{record_length, arity, ticket_kinds}
use Rattle.rdfs.specs.Lists.{member}
use Rattle.rdfs.specs.Facts.{Fact, cl, pr, dom, rng, made, has}
use Rattle.rdfs.specs.Clashes.{clashes}

pub record Ticket : Type 0 where
  pub operation : ℕ
  pub kind : ℕ
  pub a : ℕ
  pub b : ℕ
  pub c : ℕ

-- A ticket by its fields, and of bytes.
abbrev pub ticket_of : ℕ → ℕ → ℕ → ℕ → ℕ → Ticket
ticket_of operation k a b c = record { operation = operation; kind = k; a = a; b = b; c = c }

abbrev pub decoded : List ℕ → Ticket
decoded bytes = ticket_of (get_or bytes 0 0) (get_or bytes 1 0) (get_or bytes 2 0) (get_or bytes 3 0) (get_or bytes 4 0)

abbrev pub inserts : Ticket → Bool
inserts ticket = eqb ticket.operation 1

abbrev pub deletes : Ticket → Bool
deletes ticket = eqb ticket.operation 2

abbrev pub makes_property : Ticket → Bool
makes_property ticket = inserts ticket && eqb ticket.kind 2

-- The one fact that a ticket names.
abbrev pub named : Ticket → Fact
named ticket = made ticket.kind ticket.a ticket.b ticket.c

-- A property with domain b and range c.
abbrev pub property_facts : ℕ → ℕ → ℕ → List Fact
property_facts a b c = pr a ∷ dom a b ∷ rng a c ∷ []

-- The asked facts of an insertion.
abbrev pub asked : Ticket → List Fact
asked ticket =
    cond (eqb ticket.kind 2) (property_facts ticket.a ticket.b ticket.c) (named ticket ∷ [])

-- 4: the length of a record.
abbrev pub bad_length : List ℕ → Bool
bad_length bytes = not (eqb (length bytes) record_length)

-- 5: the operation.
abbrev pub bad_operation : Ticket → Bool
bad_operation ticket = not (inserts ticket || deletes ticket)

-- 6: the kind.
abbrev pub bad_kind : Ticket → Bool
bad_kind ticket = not (member ticket_kinds ticket.kind)

-- How many ids the ticket uses.
abbrev pub used : Ticket → ℕ
used ticket = cond (makes_property ticket) 3 (arity ticket.kind)

abbrev pub unused_not_zero : Ticket → Bool
unused_not_zero ticket =
    (ltb (used ticket) 2 && not (eqb ticket.b 0)) || (ltb (used ticket) 3 && not (eqb ticket.c 0))

abbrev pub mark_misplaced : Ticket → Bool
mark_misplaced ticket =
    eqb ticket.a 1 || (eqb ticket.b 1 || (eqb ticket.c 1 && not (makes_property ticket)))

abbrev pub above_highest : ℕ → Ticket → Bool
above_highest top ticket = ltb top ticket.a || (ltb top ticket.b || ltb top ticket.c)

-- 7: an unused byte not 0; id 1 elsewhere than as c of an insertion of kind 2; an id above the highest.
abbrev pub bad_ids : ℕ → Ticket → Bool
bad_ids top ticket = unused_not_zero ticket || (mark_misplaced ticket || above_highest top ticket)

-- 8: deletion of Cl(0), or of CSub or CI with b = 0.
abbrev pub guarded : Ticket → Bool
guarded ticket =
    deletes ticket && ((eqb ticket.kind 1 && eqb ticket.a 0)
    || ((eqb ticket.kind 5 || eqb ticket.kind 9) && eqb ticket.b 0))

-- 9: inserting PSub with a or b not a property of the table, PI with c not one, or Excl with a not one.
abbrev pub unknown_property : List Fact → Ticket → Bool
unknown_property K ticket =
    inserts ticket
    && ((eqb ticket.kind 6 && (not (has K (pr ticket.a)) || not (has K (pr ticket.b))))
    || ((eqb ticket.kind 10 && not (has K (pr ticket.c)))
    || (eqb ticket.kind 11 && not (has K (pr ticket.a)))))

-- 16: inserting CI with b not a class of the table.
abbrev pub unknown_class : List Fact → Ticket → Bool
unknown_class K ticket = inserts ticket && (eqb ticket.kind 9 && not (has K (cl ticket.b)))

-- 10: what the rules demand beside the table and the asked facts breaks a rule that forbids.
abbrev pub clashing : List Fact → Ticket → Bool
clashing new ticket = inserts ticket && clashes new
