-- `words::is_below`. Assumes nothing.
use Prim.Native.Nat.{ℕ}
use mathlib.Core.Path.{ap}
use mathlib.Core.Bool.{cond}
use native.Mathlib.Omega.{arith}
use native.Mathlib.Decide.{dec_lt}
use borrow.Author.Tests.{lt-ltb, le-ltb}
use Rattle.table.proofs.words.is_below.Goals as goal

pub returns : goal.returns
returns c =
    record {
      answer = elim (dec_lt c.args.word c.args.other) [
        | yes l ↦ omega (arith, ap {B = ℕ} (λ b. cond b 1 0) (lt-ltb c.args.word c.args.other l))
        | no l ↦ omega (arith, ap {B = ℕ} (λ b. cond b 1 0) (le-ltb c.args.word c.args.other (omega arith)))
      ];
    }
