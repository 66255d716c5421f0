-- `is_taken`: the properties are flagged, the value is given to a, and the pass over the values decides. Assumes nothing.
use Prim.Native.Nat.{suc}
use mathlib.Core.Path.{refl}
use native.Mathlib.Omega.{arith}
use Rattle.rdfs.specs.Numbers.{product}
use Rattle.table.specs.Counted.{facts_of}
use Rattle.flags.proofs.Added.{says_none}
use Rattle.exclusive.proofs.HolderLaws.{holders_one}
use Rattle.exclusive.proofs.Answered.{none_above, none_taken, taken_held}
use Rattle.exclusive.proofs.is_taken.Goals as goal

pub returns-then-not-has_exclusive : goal.returns-then-not-has_exclusive
returns-then-not-has_exclusive c =
    record {
      answer = let K = facts_of c.args.facts.now in
          none_taken K c.args.a c.args.b c.args.c (none_above K c.args.c (c.if-not-has_exclusive.ensures.none refl));
    }

pub flag_exclusive-above-requires : goal.flag_exclusive-above-requires
flag_exclusive-above-requires c =
    record {
      facts = record {
        full = c.requires.facts.full;
        id = c.requires.facts.ids.1.1;
        whole = omega arith;
        unset = says_none (suc product.top);
      };
    }

pub returns-then-not-above : goal.returns-then-not-above
returns-then-not-above c =
    record {
      answer = none_taken (facts_of c.args.facts.now) c.args.a c.args.b c.args.c
          c.if-not-above.ensures.answer;
    }

pub returns : goal.returns
returns c =
    record {
      answer = taken_held (facts_of c.args.facts.now) _ c.args.a c.args.b c.args.c
          c.flag_exclusive-above.ensures.flags
          (holders_one (suc product.top) c.args.a c.args.b c.place.ensures.answer c.holder_of.ensures.answer
          (omega (arith, c.requires.facts.ids.1.0)))
          c.is_held.ensures.answer;
    }
