-- Refusals: each a number and a test, in the order in which they are judged. The first whose test holds is
-- the answer.
use Rattle.std.specs.Prelude.{ℕ, Bool, true, false, not, ◌||◌, List, [], ◌∷◌, ◌++◌, T, ltb, leb, length}
use Rattle.rdfs.specs.Numbers.{Numbers}
use Rattle.rdfs.specs.Facts.{Fact}
use Rattle.rdfs.specs.Words.{laid_out, facts, words}
use Rattle.rdfs.specs.Clashes.{is_consistent}
use Rattle.rdfs.specs.Insertion.{insertion}
use Rattle.rdfs.specs.Deletion.{deletion}
use Rattle.rdfs.specs.Tickets.{
  Ticket,
  decoded,
  inserts,
  named,
  asked,
  bad_length,
  bad_operation,
  bad_kind,
  bad_ids,
  guarded,
  unknown_property,
  unknown_class,
  clashing,
}

-- The number if its test is true, else what comes after.
abbrev pub or_else : Bool → ℕ → ℕ → ℕ
or_else true n rest = n
or_else false n rest = rest

-- The number of the first whose test is true; if none is, what comes after.
abbrev pub first_or : List (ℕ × Bool) → ℕ → ℕ
first_or [] rest = rest
first_or (refusal ∷ l) rest = or_else refusal.1 refusal.0 (first_or l rest)

-- The same, 0 if none is.
abbrev pub first_true : List (ℕ × Bool) → ℕ
first_true tests = first_or tests 0

-- The number of the first refusal whose condition holds; 0 if none holds.
pub data First : List (ℕ × Bool) → ℕ → Type 0 where
  none : First [] 0
  here : {n : ℕ} {test : Bool} {l : List (ℕ × Bool)} → T test → First ((n, test) ∷ l) n
  later : {n m : ℕ} {test : Bool} {l : List (ℕ × Bool)} → (T test → ⊥) → First l m → First ((n, test) ∷ l) m

-- 1: a table of no words or above the most.
abbrev pub bad_size : Numbers → List ℕ → Bool
bad_size N table = leb (length table) 0 || ltb N.most (length table)

-- 2: a table not laid out.
abbrev pub bad_layout : Numbers → List ℕ → Bool
bad_layout N table = not (laid_out N 1 table)

-- 3: a table not consistent.
abbrev pub inconsistent : Numbers → List ℕ → Bool
inconsistent N table = not (is_consistent (facts N table))

-- 11: the new graph has more facts than the table has words.
abbrev pub too_many : Numbers → List ℕ → List Fact → Bool
too_many N table new = ltb (length table) (length (words N new))

abbrev pub layout_tests : Numbers → List ℕ → List (ℕ × Bool)
layout_tests N table = (1, bad_size N table) ∷ (2, bad_layout N table) ∷ []

abbrev pub table_tests : Numbers → List ℕ → List (ℕ × Bool)
table_tests N table = layout_tests N table ++ ((3, inconsistent N table) ∷ [])

-- What a ticket shows without a table: 5 to 7, which its sender causes, then 8.
abbrev pub field_tests : Numbers → Ticket → List (ℕ × Bool)
field_tests N ticket = (5, bad_operation ticket) ∷ (6, bad_kind ticket) ∷ (7, bad_ids N.top ticket) ∷ []

abbrev pub form_tests : Numbers → Ticket → List (ℕ × Bool)
form_tests N ticket = field_tests N ticket ++ ((8, guarded ticket) ∷ [])

-- The sender's refusals: 4 to 7.
abbrev pub sender_tests : Numbers → List ℕ → List (ℕ × Bool)
sender_tests N bytes = (4, bad_length bytes) ∷ field_tests N (decoded bytes)

-- Those of the graph's state, 8 to 11 and 16, on a table of facts K, if `new` is the graph that the ticket
-- would leave.
abbrev pub state_tests : Numbers → List ℕ → List Fact → List Fact → Ticket → List (ℕ × Bool)
state_tests N table K new ticket =
    (8, guarded ticket) ∷ (9, unknown_property K ticket) ∷ (16, unknown_class K ticket)
    ∷ (10, clashing new ticket) ∷ (11, too_many N table new) ∷ []

-- The graph that an accepted ticket leaves.
abbrev pub outcome : ℕ → List Fact → Ticket → List Fact
outcome top K ticket =
    elim (inserts ticket) [ true ↦ insertion top K (asked ticket) | false ↦ deletion K (named ticket) ]

-- All of a ticket's.
abbrev pub ticket_tests : Numbers → List ℕ → List Fact → List Fact → List ℕ → List (ℕ × Bool)
ticket_tests N table K new bytes = sender_tests N bytes ++ state_tests N table K new (decoded bytes)

-- 1 and 2, then those of a call's own; 1, 2, 3, then those; 4 to 9, 16, 10, 11.
abbrev pub layout_refusal : Numbers → List ℕ → ℕ → ℕ
layout_refusal N table = first_or (layout_tests N table)

abbrev pub table_refusal : Numbers → List ℕ → ℕ → ℕ
table_refusal N table = first_or (table_tests N table)

abbrev pub ticket_refusal : Numbers → List ℕ → List Fact → List Fact → List ℕ → ℕ
ticket_refusal N table K new bytes = first_true (ticket_tests N table K new bytes)
