-- `first_broken` meets its contract: the rule after those that are met is the first that is broken. Assumes nothing.
use Rattle.consistency.proofs.MetLaws.{met_all, met_broken}
use Rattle.consistency.proofs.first_broken.Goals as goal

pub returns-then-met-lt-RULES : goal.returns-then-met-lt-RULES
returns-then-met-lt-RULES c =
    record { answer = rw c.rule_at.ensures.answer (met_broken c.count_met-met.ensures.answer c.if-met-lt-RULES.true) }

pub returns : goal.returns
returns c = record { answer = met_all c.count_met-met.ensures.answer c.if-met-lt-RULES.false }
