-- The plain register of document 01: fed the words of a table and tickets, nothing else.
use Rattle.std.specs.Prelude.{ℕ, zero, suc, ◌≤◌, ◌<◌, not, List, [], ◌∷◌, T, length, take, drop}
use Rattle.rdfs.specs.Numbers.{Numbers, record_length}
use Rattle.rdfs.specs.Lists.{filter, member}
use Rattle.rdfs.specs.Facts.{Fact, graph}
use Rattle.rdfs.specs.Consistency.{Consistent}
use Rattle.rdfs.specs.Words.{laid_out, filled, facts, words, padded}
use Rattle.rdfs.specs.Tickets.{decoded}
use Rattle.rdfs.specs.Refusals.{outcome, table_refusal, ticket_refusal}

-- A ticket's answer and the words it leaves.
pub record Answer : Type 0 where
  pub number : ℕ
  pub added : ℕ
  pub removed : ℕ
  pub table : List ℕ

-- The members of the second list that are not in the first, in their order; and how many there are.
abbrev pub newcomers : List ℕ → List ℕ → List ℕ
newcomers old new = filter (λ n. not (member old n)) new

abbrev pub besides : List ℕ → List ℕ → ℕ
besides old new = length (newcomers old new)

-- The answer to a refused ticket.
abbrev pub refused_with : ℕ → List ℕ → Answer
refused_with number table = record { number = number; added = 0; removed = 0; table = table }

-- The answer by its number, if the ticket would leave the facts of these words.
abbrev pub answer : ℕ → List ℕ → List ℕ → Answer
answer zero table new = record {
  number = 0;
  added = besides (filled table) new;
  removed = besides new (filled table);
  table = padded (length table) new;
}
answer (suc n) table new = refused_with (suc n) table

-- One ticket, whatever its bytes, on the words of a table, whatever they are.
unfoldable pub step : Numbers → List ℕ → List ℕ → Answer
step N table bytes =
    let K : List Fact = facts N table in
    let new : List Fact = outcome N.top K (decoded bytes) in
    let number : ℕ = table_refusal N table (ticket_refusal N table K new bytes) in
    let new_words : List ℕ = words N new in
    answer number table new_words

-- The numbers, the added and removed counts, and the words at the end of a run.
pub record Done : Type 0 where
  pub numbers : List ℕ
  pub counts : List ℕ
  pub table : List ℕ

-- Tickets run in turn, each by the same step on the words that the one before left.
unfoldable pub run_with : (List ℕ → List ℕ → Answer) → List ℕ → List (List ℕ) → Done
run_with one table [] = record { numbers = []; counts = []; table = table }
run_with one table (ticket ∷ l) =
    let first : Answer = one table ticket in
    let rest : Done = run_with one first.table l in
    record {
      numbers = first.number ∷ rest.numbers;
      counts = first.added ∷ first.removed ∷ rest.counts;
      table = rest.table;
    }

unfoldable pub run : Numbers → List ℕ → List (List ℕ) → Done
unfolding run_with
run N table tickets = run_with (step N) table tickets

-- A list of bytes cut into tickets of so many bytes; what is short of that is one ticket.
abbrev pub cut_within : ℕ → ℕ → List ℕ → List (List ℕ)
cut_within zero size l = []
cut_within (suc limit) size [] = []
cut_within (suc limit) size (n ∷ l) = take size (n ∷ l) ∷ cut_within limit size (drop size (n ∷ l))

abbrev pub cut : ℕ → List ℕ → List (List ℕ)
cut size bytes = cut_within (length bytes) size bytes

unfoldable pub register : Numbers → List ℕ → List ℕ → Done
register N table bytes = run N table (cut record_length bytes)

-- A consistent table: what the register is fed.
pub record Table (N : Numbers) (table : List ℕ) : Type 0 where
  pub some : 0 < length table
  pub fits : length table ≤ N.most
  pub laid : T (laid_out N 1 table)
  pub consistent : Consistent (graph (facts N table))
