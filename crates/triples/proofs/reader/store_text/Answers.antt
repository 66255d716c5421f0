-- `reader::store_text`: the members, the literals, the lines, each stored after the others or without room. Assumes nothing.
use mathlib.Core.Path.{◌∙◌}
use mathlib.Core.List.{◌++◌}
use Rattle.triples.specs.Storing.{ids, flagged_from, line_words}
use Rattle.triples.proofs.Pending.{pending_start, pending_more, pending_full, pending_stored}
use Rattle.triples.proofs.reader.store_text.Goals as goal

pub returns-in_err-individuals : goal.returns-in_err-individuals
returns-in_err-individuals c =
    let seen = c.args.seen.now in
    let rest = flagged_from 4 seen.literals ids ++ line_words c.args.text.now in
    let full = c.in_err-individuals.ensures.words in
    rw c.from_residual.ensures
    (record { words = (pending_full (flagged_from 3 seen.members ids) rest (pending_start _ c.requires.empty) full.0, full.1) })

pub returns-in_err-count : goal.returns-in_err-count
returns-in_err-count c =
    let seen = c.args.seen.now in
    let lines = line_words c.args.text.now in
    let values = flagged_from 4 seen.literals ids in
    let first = pending_more (flagged_from 3 seen.members ids) (values ++ lines) (pending_start _ c.requires.empty)
    c.in_ok-individuals.ensures.words in
    let full = c.in_err-count.ensures.words in
    rw c.from_residual-in_err-count.ensures
    (record { words = (pending_full values lines first full.0, full.1 ∙ first.size) })

pub returns : goal.returns
returns c =
    let seen = c.args.seen.now in
    let lines = line_words c.args.text.now in
    let values = flagged_from 4 seen.literals ids in
    let first = pending_more (flagged_from 3 seen.members ids) (values ++ lines) (pending_start _ c.requires.empty)
    c.in_ok-individuals.ensures.words in
    let second = pending_more values lines first c.in_ok-count.ensures.words in
    record { words = pending_stored lines _ second _ c.store_lines.ensures.words }
