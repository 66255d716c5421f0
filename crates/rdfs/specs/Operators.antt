-- Tickets of shift operators: the register's step with one more refusal, 17, directly after 7.
use Rattle.std.specs.Prelude.{ℕ, Bool, true, false, not, ◌&&◌, cond, List, [], ◌∷◌, ◌++◌, eqb}
use Rattle.rdfs.specs.Numbers.{Numbers, record_length, operator_kinds}
use Rattle.rdfs.specs.Lists.{filter, member}
use Rattle.rdfs.specs.Facts.{Fact, kind}
use Rattle.rdfs.specs.Words.{facts}
use Rattle.rdfs.specs.Tickets.{Ticket, decoded}
use Rattle.rdfs.specs.Refusals.{first_true, outcome, table_tests, sender_tests, state_tests}
use Rattle.rdfs.specs.Register.{Answer, refused_with, step, Done, run_with, cut}

-- 17: the kind is not for operators.
abbrev pub not_for_operators : Ticket → Bool
not_for_operators ticket = not (member operator_kinds ticket.kind)

-- The refusals before it: 1 to 7.
abbrev pub earlier_tests : Numbers → List ℕ → List ℕ → List (ℕ × Bool)
earlier_tests N table bytes = table_tests N table ++ sender_tests N bytes

-- Refused with 17: it holds, and none before it does.
abbrev pub barred : Numbers → List ℕ → List ℕ → Bool
barred N table bytes = eqb (first_true (earlier_tests N table bytes)) 0 && not_for_operators (decoded bytes)

-- One ticket of an operator, whatever its bytes, on the words of a table, whatever they are.
unfoldable pub operator_step : Numbers → List ℕ → List ℕ → Answer
operator_step N table bytes = cond (barred N table bytes) (refused_with 17 table) (step N table bytes)

-- One ticket, of an operator or of anyone.
abbrev pub step_as : (operator : Bool) → Numbers → List ℕ → List ℕ → Answer
step_as true = operator_step
step_as false = step

-- The register fed with operators' tickets, or with anyone's.
unfoldable pub register_as : (operator : Bool) → Numbers → List ℕ → List ℕ → Done
register_as operator N table bytes = run_with (step_as operator N) table (cut record_length bytes)

-- An operator's refusals in their order: 1 to 7, 17, 8, 9, 16, 10, 11.
abbrev pub operator_tests : Numbers → List ℕ → List ℕ → List (ℕ × Bool)
operator_tests N table bytes =
    let K : List Fact = facts N table in
    let ticket : Ticket = decoded bytes in
    earlier_tests N table bytes
    ++ ((17, not_for_operators ticket) ∷ state_tests N table K (outcome N.top K ticket) ticket)

-- The facts of the kinds that are not for operators.
abbrev pub others : List Fact → List Fact
others K = filter (λ f. not (member operator_kinds (kind f))) K
