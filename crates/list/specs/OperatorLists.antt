-- What is claimed of the operators' calls on a whole list. `operators_list` in proofs/OperatorListTheorems
-- proves it.
use Rattle.std.specs.Prelude.{ℕ, ◌≡◌, List, [], ◌∷◌, map, take}
use Rattle.rdfs.specs.Numbers.{product, record_length}
use Rattle.rdfs.specs.Lists.{concat_map}
use Rattle.rdfs.specs.Words.{facts}
use Rattle.rdfs.specs.Register.{Done, cut}
use Rattle.rdfs.specs.Operators.{others}
use Rattle.table.specs.Refused.{answer_of}
use Rattle.ticket.specs.Answered.{Outcome, added_by, removed_by}
use Rattle.operators.specs.Operator.{OperatorPromise}
use Rattle.list_form.specs.Listing.{ListOutcome, OperatorListPromise}
use Rattle.list.specs.CallContracts.{SingleCall, ListCall, Single, OneByOne, left_by}
use Rattle.list.specs.Demand3.{Ran, list_cut_off}

-- The calls, and what they promise. Nothing else is known of them.
pub record OperatorCalls : Type 1 where
  pub apply : SingleCall
  pub apply_list : ListCall

pub record OperatorContracts (calls : OperatorCalls) : Type 0 where
  pub apply : (table ticket : List ℕ) (outcome : Outcome) (after : List ℕ)
      → calls.apply table ticket outcome after → OperatorPromise table ticket outcome after
  pub apply_list : (table bytes answers : List ℕ) (outcome : ListOutcome) (after out : List ℕ)
      → calls.apply_list table bytes answers outcome after out
      → OperatorListPromise table bytes answers outcome after out

-- What single calls one after another have done.
abbrev pub done_by : List ℕ → List Single → Done
done_by table singles = record {
  numbers = map (λ s. answer_of s.answer) singles;
  counts = concat_map (λ s. added_by s.answer ∷ removed_by s.answer ∷ []) singles;
  table = left_by table singles;
}

-- The facts of kinds that are not for operators are the same in both tables.
abbrev pub SameOthers : List ℕ → List ℕ → Type 0
SameOthers after before = others (facts product after) ≡ others (facts product before)

-- A list of bytes, from the words of a consistent table, with these answer bytes.
pub record OperatorsList (calls : OperatorCalls) (table bytes answers : List ℕ) : Type 0 where
  -- Single calls leave those facts as they were, after each ticket, accepted or not; and so does the list
  -- call, on the whole list and on the list cut off after each ticket.
  pub singles_keep : (singles : List Single)
      → OneByOne calls.apply table (cut record_length bytes) singles → (i : ℕ)
      → SameOthers (left_by table (take i singles)) table
  pub list_keeps : (outcome : ListOutcome) (after out : List ℕ)
      → calls.apply_list table bytes answers outcome after out → SameOthers after table
  pub cut_off_keeps : (i : ℕ) (outcome : ListOutcome) (after out : List ℕ)
      → calls.apply_list table (list_cut_off i bytes) answers outcome after out → SameOthers after table
  -- The list call does as single calls one after another: their words, their numbers in its answer bytes, and
  -- how many of them are accepted and refused.
  pub as_singles : (singles : List Single) → OneByOne calls.apply table (cut record_length bytes) singles
      → (outcome : ListOutcome) (after out : List ℕ) → calls.apply_list table bytes answers outcome after out
      → (answer_of outcome ≡ 14 → ⊥) → Ran answers outcome after out (done_by table singles)
