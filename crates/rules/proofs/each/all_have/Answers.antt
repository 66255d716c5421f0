-- `each::all_have` meets its contract: the test of both ids goes through the words of the kind. Assumes nothing.
use Rattle.std.proofs.Common.{rules, arith}
use Rattle.rules.proofs.Meeting.{two_decides}
use Rattle.rules.proofs.each.all_have.Goals as goal

pub returns : goal.returns
returns c =
    record {
      answer = two_decides c.args.spans.now.indexed.words c.all_meet.ensures.answer (omega (arith, c.requires.two.ids))
          (λ x y z p q s r g. search rules);
    }
