-- `shares_values`: the properties are flagged, the values of a are noted, and the pass over the values decides. Assumes nothing.
use Prim.Native.Nat.{suc}
use mathlib.Core.Path.{refl, ◌∙◌}
use native.Mathlib.Omega.{arith}
use Rattle.rdfs.specs.Numbers.{product}
use Rattle.table.specs.Counted.{facts_of}
use Rattle.flags.proofs.Added.{says_none}
use Rattle.exclusive.proofs.HolderLaws.{holders_none}
use Rattle.exclusive.proofs.Answered.{none_above, none_shared, two_shared, shared_held}
use Rattle.exclusive.proofs.shares_values.Goals as goal

pub returns-then-not-has_exclusive : goal.returns-then-not-has_exclusive
returns-then-not-has_exclusive c =
    record {
      answer = let K = facts_of c.args.facts.now in
          none_shared K c.args.a c.args.b (none_above K c.args.b (c.if-not-has_exclusive.ensures.none refl));
    }

pub flag_exclusive-above-requires : goal.flag_exclusive-above-requires
flag_exclusive-above-requires c =
    record {
      facts = record {
        full = c.requires.facts.full;
        id = c.requires.facts.ids.1;
        whole = omega arith;
        unset = says_none (suc product.top);
      };
    }

pub returns-then-not-above : goal.returns-then-not-above
returns-then-not-above c =
    record {
      answer = none_shared (facts_of c.args.facts.now) c.args.a c.args.b
          c.if-not-above.ensures.answer;
    }

pub fill_holders-two-requires-clause-holders : goal.fill_holders-two-requires-clause-holders
fill_holders-two-requires-clause-holders c = record { whole = omega arith; none = holders_none (suc product.top) }

pub returns-then-two : goal.returns-then-two
returns-then-two c =
    record {
      answer = c.if-two.true ∙ two_shared (facts_of c.args.facts.now) c.args.a c.args.b c.if-not-above.ensures.answer
          (c.fill_holders-two.ensures.answer.two c.if-two.true);
    }

pub returns-else-two : goal.returns-else-two
returns-else-two c =
    record {
      answer = shared_held (facts_of c.args.facts.now) _ c.args.a c.args.b
          c.if-not-above.ensures.answer c.flag_exclusive-above.ensures.flags
          (c.fill_holders-two.ensures.answer.one c.if-two.false) c.is_held.ensures.answer;
    }
