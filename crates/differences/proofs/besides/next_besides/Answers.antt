use native.Mathlib.Omega.{arith}
use Rattle.differences.proofs.Searching.{search_start, search_within, search_end, search_found, search_same, search_past}
use Rattle.differences.proofs.besides.next_besides.Goals as goal
use Rattle.differences.proofs.besides.next_besides.Goals.{then-word-other-2, else-word-other-2}

pub loop-past-init : goal.loop-past-init
loop-past-init c = search_start c.requires.lists

pub offset_bounds-words-place : goal.offset_bounds-words-place
offset_bounds-words-place c = let within = search_within c.loop-past.invariant in omega (arith, within)

pub bounds-words-place : goal.bounds-words-place
bounds-words-place c = search_within c.loop-past.invariant

pub returns-then-word-other : goal.returns-then-word-other
returns-then-word-other c =
    record { answer = search_found c.loop-past.invariant c.loop-past-test.true c.if-word-other.true }

pub overflow_add-place : goal.overflow_add-place
overflow_add-place c = let within = search_within c.loop-past.invariant in omega (arith, within)

pub loop-past-preserved : goal.loop-past-preserved
loop-past-preserved c =
    elim c.if-word-other-2.branch [
      | then-word-other-2 w ↦ rw w.place-is (search_same c.loop-past.invariant c.loop-past-test.true w.if-word-other-2.true)
      | else-word-other-2 w ↦ rw w.place-is
          (search_past c.loop-past.invariant c.loop-past-test.true (omega (arith, w.if-word-other-2.false)))
    ]

pub returns : goal.returns
returns c = record { answer = search_end c.loop-past.invariant c.loop-past-test.false }
