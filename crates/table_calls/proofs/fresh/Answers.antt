-- `fresh`: the word of Cl(0) is stored, and zeros after it. Assumes nothing.
use mathlib.Core.Path.{sym, ap, ◌∙◌}
use native.Mathlib.Omega.{arith}
use lib.ListN.{set, length-set}
use Rattle.rdfs.specs.Numbers.{product}
use Rattle.table.specs.Room.{cleared_from}
use Rattle.table.proofs.Moved.{cleared_part}
use Rattle.table_calls.proofs.CallCases.{fresh_taken, size_some, fresh_made}
use Rattle.table_calls.proofs.fresh.Goals as goal

pub returns-clause-words : goal.returns-clause-words
returns-clause-words c =
    let good = sym c.is_bad_size.ensures.answer ∙ c.if-is_bad_size.false in
    let some = size_some product c.args.table.now good in
    cleared_part _ 1 (omega (arith, some, length-set c.args.table.now 0 c.word_of.result)) (c.fill.ensures.after (λ y e. e))
    ∙ (ap (λ w. cleared_from (set c.args.table.now 0 w) 1) c.word_of.ensures.answer
    ∙ (fresh_made c.args.table.now some ∙ (fresh_taken c.args.table.now good).1))
