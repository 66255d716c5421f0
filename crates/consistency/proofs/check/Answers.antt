-- `check` meets its contract: the layout's refusals come first, then the rules that are met decide consistency. Assumes nothing.
use mathlib.Core.Path.{refl}
use Rattle.consistency.proofs.Refused.{past_broken, past_met}
use Rattle.consistency.proofs.check.Goals as goal

pub returns-then-count_met-lt-RULES : goal.returns-then-count_met-lt-RULES
returns-then-count_met-lt-RULES c =
    record {
      answer = past_broken c.args.table.now 0 c.in_ok-check_layout.ensures.answer refl c.count_met.ensures.answer
          c.if-count_met-lt-RULES.true;
    }

pub returns : goal.returns
returns c =
    record {
      answer = past_met c.args.table.now 0 c.in_ok-check_layout.ensures.answer refl c.count_met.ensures.answer
          c.if-count_met-lt-RULES.false;
    }
