use Rattle.triples.proofs.LinesLeft.{line_shorter, judging_more, judged, judged_literals, judged_values, judged_members}
use Rattle.triples.proofs.seen.Seen.flag_lines.Goals as goal

pub loop-line-smaller : goal.loop-line-smaller
loop-line-smaller c = line_shorter c.in-Some.ensures.answer

pub loop-line-preserved : goal.loop-line-preserved
loop-line-preserved c =
    let flag = c.flag_line in
    judging_more c.loop-line.invariant c.in-Some.ensures.answer flag.new.self flag.ensures.literals flag.ensures.values
    flag.ensures.members

pub returns-clause-answer : goal.returns-clause-answer
returns-clause-answer c = judged c.loop-line.invariant c.in_default.ensures.answer c.is_empty.ensures

pub returns-clause-literals : goal.returns-clause-literals
returns-clause-literals c = judged_literals c.loop-line.invariant c.in_default.ensures.answer c.is_empty.ensures

pub returns-clause-values : goal.returns-clause-values
returns-clause-values c = judged_values c.loop-line.invariant c.in_default.ensures.answer c.is_empty.ensures

pub returns-clause-members : goal.returns-clause-members
returns-clause-members c = judged_members c.loop-line.invariant c.in_default.ensures.answer c.is_empty.ensures
