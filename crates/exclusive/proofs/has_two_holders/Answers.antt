-- `has_two_holders`: as the holders are noted. Assumes nothing.
use Prim.Native.Nat.{suc}
use native.Mathlib.Omega.{arith}
use Rattle.rdfs.specs.Numbers.{product}
use Rattle.table.specs.Counted.{facts_of}
use Rattle.exclusive.proofs.HolderLaws.{holders_none}
use Rattle.exclusive.proofs.Answered.{filled_two}
use Rattle.exclusive.proofs.has_two_holders.Goals as goal

pub fill_holders-requires-clause-holders : goal.fill_holders-requires-clause-holders
fill_holders-requires-clause-holders c = record { whole = omega arith; none = holders_none (suc product.top) }

pub returns : goal.returns
returns c =
    record { answer = filled_two (facts_of c.args.facts.now) _ c.args.a c.fill_holders.ensures.answer }
