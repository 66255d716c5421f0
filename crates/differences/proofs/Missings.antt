-- The words of a table that another lacks, by the tables cut to their facts. Assumes nothing.
use Prim.Native.Nat.{ℕ, ◌≤◌}
use mathlib.Core.Path.{◌≡◌, sym, ap, ◌∙◌}
use mathlib.Core.List.{List}
use lib.ListN.{length, take}
use Rattle.rdfs.specs.Words.{filled}
use Rattle.rdfs.specs.Register.{newcomers}
use Rattle.table.specs.Counted.{Counted}
use Rattle.table.proofs.CountedLaws.{counted_first, counted_search}
use Rattle.differences.specs.Besides.{Measured, missing, Missing}

module _ {table other : List ℕ} {size n m : ℕ} (p : Missing table other size) (en : n ≡ length (filled table))
    (em : m ≡ length (filled other)) where
  counted : Counted table n
  counted = record { laid = p.laid; size = en }

  other_counted : Counted other m
  other_counted = record { laid = p.other_laid; size = em }

  pub missing_within : n ≤ length table
  missing_within = (counted_search counted).0

  pub missing_other_within : m ≤ length other
  missing_other_within = (counted_search other_counted).0

  pub missing_is : newcomers (take m other) (take n table) ≡ missing table other
  missing_is = λ i. newcomers (counted_first other_counted i) (counted_first counted i)

  pub missing_measured : {run : List ℕ} → length run ≡ size → Measured (take n table) (take m other) run
  missing_measured e = record {
    ascending = (counted_search counted).1;
    others_ascending = (counted_search other_counted).1;
    size = e ∙ (p.many ∙ ap length (sym missing_is));
  }
