-- The contracts of `check`, `count_met` and `first_broken` in the source are what the theorems on the order take as a premise.
-- That of `check` asks nothing of a caller, the others ask for a table that is laid out and not too long. Assumes nothing.
use Prim.Native.Nat.{ℕ, ◌≤◌}
use mathlib.Core.Path.{◌≡◌, refl}
use mathlib.Core.List.{List}
use seplogic.Ra.Ura.{Ura}
use base.Logic.{SProp, sep}
use prog.Memory.{Memory}
use prog.Routine.{Routine}
use types.Logic.{Logic}
use contract.Monad.{Fun, fact}
use contract.Lifetimes.{Lfts}
use denote.Triple.Entry.{Args}
use denote.Triple.Clauses.{Ended, Clauses}
use lib.Dec.{T}
use lib.ListN.{length}
use Rattle.rdfs.specs.Numbers.{product}
use Rattle.rdfs.specs.Facts.{graph}
use Rattle.rdfs.specs.Words.{laid_out}
use Rattle.rdfs.specs.Refusals.{table_refusal}
use Rattle.table.specs.Counted.{facts_of}
use Rattle.table.specs.Refused.{answer_of}
use Rattle.table.proofs.Promising.{Promise, promising}
use Rattle.consistency.specs.Order.{rules_in_order, MetFirst, Answers}
use Rattle.consistency.specs.contracts.check as check
use Rattle.consistency.specs.contracts.count_met as count-met
use Rattle.consistency.specs.contracts.first_broken as first-broken

module _ {M : Type 1} {𝓤 : Ura M} (𝓛 : Logic 𝓤) (mem : Memory → SProp 𝓤) (run : Routine → Fun 𝓤) where
  pub table_check_tied : check.clauses 𝓛 mem run
      ≡ promising 𝓤 check.ended (λ κs a r e. answer_of r ≡ table_refusal product a.0.now 0)
  table_check_tied = refl

  -- A table that is laid out and not too long.
  abbrev laid_and_sized : List ℕ → SProp 𝓤
  laid_and_sized table = sep 𝓤 (fact 𝓤 (T (laid_out product 1 table))) (fact 𝓤 (length table ≤ product.most))

  -- The contract that asks for Q and promises P.
  abbrev asking : (E : Ended) → ((κs : Lfts E.signature.lifetimes) → Args E.signature κs → SProp 𝓤) → Promise E
      → Clauses 𝓤 E
  asking E Q P κs a = record { ghost = Unit {0}; requires = λ g. Q κs a; ensures = λ g r e. fact 𝓤 (P κs a r e) }

  pub count_met_tied : count-met.clauses 𝓛 mem run
      ≡ asking count-met.ended (λ κs a. laid_and_sized a.0.now)
      (λ κs a r e. MetFirst (graph (facts_of a.0.now)) rules_in_order r)
  count_met_tied = refl

  pub first_broken_tied : first-broken.clauses 𝓛 mem run
      ≡ asking first-broken.ended (λ κs a. laid_and_sized a.0.now)
      (λ κs a r e. Answers (graph (facts_of a.0.now)) rules_in_order r)
  first_broken_tied = refl
