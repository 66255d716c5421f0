-- What the inner steps ask of a table and a ticket.
use Rattle.std.specs.Prelude.{ℕ, ◌≡◌, false, List, length}
use Rattle.rdfs.specs.Numbers.{product}
use Rattle.rdfs.specs.Tickets as defs
use Rattle.rdfs.specs.Words.{filled}
use Rattle.rdfs.specs.Lookups.{lookup_clash}
use Rattle.rdfs.specs.Register.{Table}
use Rattle.rdfs.specs.Promises.{Known}
use Rattle.table.specs.Counted.{facts_of}
use Rattle.ticket_form.specs.TicketForm.{form_refusal}

-- A consistent table with this many facts, and a ticket past the first eight refusals.
pub record Ready (words : List ℕ) (count operation k a b c : ℕ) : Type 0 where
  pub table : Table product words
  pub size : count ≡ length (filled words)
  pub formed : form_refusal (defs.ticket_of operation k a b c) ≡ 0

-- An insertion past refusal 10.
pub record Possible (words : List ℕ) (count k a b c : ℕ) : Type 0 where
  pub ready : Ready words count 1 k a b c
  pub known : Known (facts_of words) (defs.ticket_of 1 k a b c)
  pub free : lookup_clash (facts_of words) (defs.ticket_of 1 k a b c) ≡ false
