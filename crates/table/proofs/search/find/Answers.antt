-- `search::find`: the word stands where the words below it end, or nowhere. Assumes nothing.
use native.Mathlib.Omega.{arith}
use Rattle.table.proofs.Below.{place_there, place_missing}
use Rattle.table.proofs.search.find.Goals as goal
use Rattle.table.proofs.search.find.Goals.{else-place-words-via-then-place-words+else-words-place, else-place-words-via-else-place-words}

pub returns-then-words-place : goal.returns-then-words-place
returns-then-words-place c = record {
  answer = place_there c.args.words.now c.args.word c.requires.words _ c.count_below-place.ensures.answer
      c.if-place-words.true c.if-words-place.true;
}

pub returns-else-place-words : goal.returns-else-place-words
returns-else-place-words c = record {
  answer = place_missing c.args.words.now c.args.word c.requires.words _ c.count_below-place.ensures.answer
      (elim c.else-place-words.branch [
        | else-place-words-via-then-place-words+else-words-place w ↦ λ l. w.if-words-place.false
        | else-place-words-via-else-place-words w ↦ λ l. absurd (omega (arith, l, w.if-place-words.false))
      ]);
}
