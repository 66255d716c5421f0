-- Looking before agreeing, Ask 6 of document 02: what a ticket would do to a table is asked for, and
-- committed if it is still what the ticket would do.
use Rattle.std.specs.Prelude.{ℕ, Bool, not, ◌&&◌, ◌||◌, cond, List, [], ◌∷◌, ◌++◌, eqb, ltb, length, drop}
use Rattle.rdfs.specs.Numbers.{Numbers, product}
use Rattle.rdfs.specs.Lists.{same_list}
use Rattle.rdfs.specs.Words.{filled}
use Rattle.rdfs.specs.Register.{Answer, newcomers, refused_with, step}
use Rattle.ticket.specs.Demand1.{conditions}

-- The words that the ticket would add to the table, and those that it would remove, as they stand there:
-- ascending.
abbrev pub added_words : Numbers → List ℕ → List ℕ → List ℕ
added_words N table bytes = newcomers (filled table) (filled (step N table bytes).table)

abbrev pub removed_words : Numbers → List ℕ → List ℕ → List ℕ
removed_words N table bytes = newcomers (filled (step N table bytes).table) (filled table)

-- 13: a run is shorter than the words that go to it.
abbrev pub short_run : Numbers → List ℕ → List ℕ → List ℕ → List ℕ → Bool
short_run N table bytes added removed =
    ltb (length added) (length (added_words N table bytes))
    || ltb (length removed) (length (removed_words N table bytes))

-- 18: the runs are not exactly the words that would come and go.
abbrev pub out_of_date : Numbers → List ℕ → List ℕ → List ℕ → List ℕ → Bool
out_of_date N table bytes added removed =
    not (same_list added (added_words N table bytes) && same_list removed (removed_words N table bytes))

-- Some words at the front of a run, then what stood there.
abbrev pub written : List ℕ → List ℕ → List ℕ
written words run = words ++ drop (length words) run

-- What asking answers, and the two runs afterwards.
pub record Asked : Type 0 where
  pub number : ℕ
  pub added : ℕ
  pub removed : ℕ
  pub added_run : List ℕ
  pub removed_run : List ℕ

-- Refused: the runs are as they were.
abbrev pub not_asked : ℕ → List ℕ → List ℕ → Asked
not_asked number added removed =
    record { number = number; added = 0; removed = 0; added_run = added; removed_run = removed }

-- One ticket asked for, whatever its bytes, on the words of a table and with two runs, whatever they are.
unfoldable pub asking : Numbers → List ℕ → List ℕ → List ℕ → List ℕ → Asked
asking N table bytes added removed =
    let after : Answer = step N table bytes in
    cond (eqb after.number 0) (cond (short_run N table bytes added removed) (not_asked 13 added removed)
    (record {
      number = 0;
      added = after.added;
      removed = after.removed;
      added_run = written (added_words N table bytes) added;
      removed_run = written (removed_words N table bytes) removed;
    }))
    (not_asked after.number added removed)

-- One ticket committed: the register's step, with one more refusal, 18, directly after 11.
unfoldable pub committing : Numbers → List ℕ → List ℕ → List ℕ → List ℕ → Answer
committing N table bytes added removed =
    let after : Answer = step N table bytes in
    cond (eqb after.number 0 && out_of_date N table bytes added removed) (refused_with 18 table) after

-- The refusals in their order: those of the single call, then 13 in asking and 18 in committing.
abbrev pub ask_tests : List ℕ → List ℕ → List ℕ → List ℕ → List (ℕ × Bool)
ask_tests table bytes added removed =
    conditions table bytes ++ ((13, short_run product table bytes added removed) ∷ [])

abbrev pub commit_tests : List ℕ → List ℕ → List ℕ → List ℕ → List (ℕ × Bool)
commit_tests table bytes added removed =
    conditions table bytes ++ ((18, out_of_date product table bytes added removed) ∷ [])
