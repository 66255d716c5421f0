-- `lookups::first_b`: from the word of the first fact. Assumes nothing.
use mathlib.Core.Path.{◌∙◌}
use Rattle.clash.proofs.LookedFacts.{first_b_of}
use Rattle.clash.proofs.lookups.first_b.Goals as goal

pub returns-in-Some-clause-answer : goal.returns-in-Some-clause-answer
returns-in-Some-clause-answer c = c.second_of.ensures.answer
    ∙ first_b_of c.args.facts.now c.args.k c.args.p c.requires.facts.full c.in-Some.word c.in-Some.ensures.answer
