-- `Spans::all_subjects` meets its contract: the values are carried over as rule 24 says. Assumes
-- nothing.
use mathlib.Core.Path.{refl}
use native.Mathlib.Omega.{arith}
use Rattle.spans.specs.Graphs.{Carried}
use Rattle.spans.proofs.Decided.{decides_as}
use Rattle.spans.proofs.Passed.{each_fact, fact_each}
use Rattle.spans.proofs.Spans.all_subjects.Goals as goal

pub carries_over-requires : goal.carries_over-requires
carries_over-requires c =
    record {
      kinds = record {
        kind = omega arith;
        upper = record { kind = omega arith; ids = refl };
        lower = record { kind = omega arith; ids = refl };
      };
    }

pub returns : goal.returns
returns c =
    record {
      answer = decides_as c.carries_over.result _ _ (λ each x y z w d p. each_fact c.args.self.now.table.now 10 (Carried c.args.self.now.table.now 10 9 7) each x y z p w d)
          (λ meets. fact_each c.args.self.now.indexed.words 10 (Carried c.args.self.now.table.now 10 9 7) (λ x y z p w d. meets x y z w d p))
          c.carries_over.ensures.answer;
    }
