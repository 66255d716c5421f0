-- `has_exclusive` meets its contract: the last word is of the highest kind that any word has. Assumes nothing.
use Prim.Native.Nat.{◌-◌}
use mathlib.Core.Path.{◌≡◌, refl, sym, ◌∙◌}
use native.Mathlib.Omega.{arith}
use lib.Dec.{eqb}
use lib.ListN.{length}
use Rattle.spans.proofs.Decided.{decides_as, decides_eqb}
use Rattle.holders.proofs.Exclusives.{last_exclusive}
use Rattle.holders.proofs.has_exclusive.Goals as goal

pub returns-in-len1-up : goal.returns-in-len1-up
returns-in-len1-up c =
    record {
      answer = decides_as (eqb c.kind_of.result 11) (c.kind_of.result ≡ 11) _
          (λ e. (length c.args.table.now - 1, omega (arith, c.in-len1-up.len_at_least), sym c.kind_of.ensures.answer ∙ e))
          (λ q. c.kind_of.ensures.answer ∙ last_exclusive c.requires.words _ refl q)
          (decides_eqb c.kind_of.result 11);
    }
