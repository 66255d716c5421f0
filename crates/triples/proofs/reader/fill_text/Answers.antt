-- `reader::fill_text`: 15 if a line is outside the profile or an id is told of twice, else what storing answers. Assumes nothing.
use mathlib.Core.Path.{sym, ◌∙◌}
use lib.ListN.{length}
use Rattle.triples.proofs.LineIds.{members_flagged, literals_flagged}
use Rattle.triples.proofs.TextFilled.{
  flags_say,
  fill_outside,
  fill_told_twice,
  filled_none,
  filled_answer,
  filled_words,
}
use Rattle.triples.proofs.reader.fill_text.Goals as goal
use Rattle.triples.proofs.reader.fill_text.Goals.{
  then-not-inside-via-then-not-inside,
  then-not-inside-via-else-not-inside+then-tells_twice,
}

pub returns-then-not-inside-clause-answer : goal.returns-then-not-inside-clause-answer
returns-then-not-inside-clause-answer c =
    let room = length c.args.table.now in
    let none = c.none-seen.ensures in
    let lines = c.flag_lines-inside.ensures in
    elim c.then-not-inside.branch [
      | then-not-inside-via-then-not-inside w ↦
          fill_outside c.args.text.now room (sym lines.answer ∙ w.if-not-inside.true)
      | then-not-inside-via-else-not-inside+then-tells_twice w ↦ fill_told_twice c.args.text.now room
          (flags_say w.if-not-inside.false none.literals lines.literals)
          (flags_say w.if-not-inside.false none.values lines.values) w.tells_twice.ensures.answer w.if-tells_twice.true
    ]

pub store_text-requires-clause-members : goal.store_text-requires-clause-members
store_text-requires-clause-members c =
    members_flagged c.args.text.now (flags_say c.if-not-inside.false c.none-seen.ensures.members
    c.flag_lines-inside.ensures.members)

pub store_text-requires-clause-literals : goal.store_text-requires-clause-literals
store_text-requires-clause-literals c =
    literals_flagged c.args.text.now (flags_say c.if-not-inside.false c.none-seen.ensures.literals
    c.flag_lines-inside.ensures.literals)

pub returns-in-Some-clause-answer : goal.returns-in-Some-clause-answer
returns-in-Some-clause-answer c =
    let none = c.none-seen.ensures in
    let lines = c.flag_lines-inside.ensures in
    filled_answer c.args.text.now c.requires.empty (flags_say c.if-not-inside.false none.members lines.members)
    (flags_say c.if-not-inside.false none.literals lines.literals) (flags_say c.if-not-inside.false none.values lines.values)
    (sym lines.answer ∙ c.if-not-inside.false) c.tells_twice.ensures.answer c.if-tells_twice.false c.in-Some.ensures.words

pub returns-in-Some-clause-words : goal.returns-in-Some-clause-words
returns-in-Some-clause-words c =
    let none = c.none-seen.ensures in
    let lines = c.flag_lines-inside.ensures in
    λ z. filled_words c.args.text.now c.requires.empty (flags_say c.if-not-inside.false none.members lines.members)
    (flags_say c.if-not-inside.false none.literals lines.literals) (flags_say c.if-not-inside.false none.values lines.values)
    (sym lines.answer ∙ c.if-not-inside.false) c.tells_twice.ensures.answer c.if-tells_twice.false c.in-Some.ensures.words

pub returns-in-None-clause-answer : goal.returns-in-None-clause-answer
returns-in-None-clause-answer c =
    let none = c.none-seen.ensures in
    let lines = c.flag_lines-inside.ensures in
    filled_none c.args.text.now c.requires.empty (flags_say c.if-not-inside.false none.members lines.members)
    (flags_say c.if-not-inside.false none.literals lines.literals) (flags_say c.if-not-inside.false none.values lines.values)
    (sym lines.answer ∙ c.if-not-inside.false) c.tells_twice.ensures.answer c.if-tells_twice.false _ c.in-None.ensures.words
