-- What the operators' ticket call promises, and when a ticket on a consistent table is refused with 17.
use Rattle.std.specs.Prelude.{ℕ, Bool, ◌&&◌, List, eqb}
use Rattle.rdfs.specs.Numbers.{product}
use Rattle.rdfs.specs.Tickets.{Ticket, decoded}
use Rattle.rdfs.specs.Refusals.{first_true, field_tests, sender_tests}
use Rattle.rdfs.specs.Operators.{not_for_operators, operator_step}
use Rattle.ticket.specs.Answered.{Outcome, Answered}

-- None of 5 to 7 holds.
abbrev pub is_past_seven : Ticket → Bool
is_past_seven ticket = eqb (first_true (field_tests product ticket)) 0

-- The kind is not for operators, and none of 4 to 7 holds.
abbrev pub is_barred : List ℕ → Bool
is_barred bytes = eqb (first_true (sender_tests product bytes)) 0 && not_for_operators (decoded bytes)

-- What `apply_operator` promises, for all words of a table and all bytes of a ticket. The theorems on the
-- call take this as their premise, and proofs/OperatorTied says that it is the contract in the source.
abbrev pub OperatorPromise : (before bytes : List ℕ) → Outcome → (after : List ℕ) → Type 0
OperatorPromise before bytes outcome after = Answered outcome after (operator_step product before bytes)
