-- The contract of `write` in the source is the promise that the theorems on the call take as a premise, and it asks nothing of
-- a caller: a change of either is refused here. Assumes nothing.
use mathlib.Core.Path.{◌≡◌, refl}
use seplogic.Ra.Ura.{Ura}
use base.Logic.{SProp}
use prog.Memory.{Memory}
use prog.Routine.{Routine}
use types.Logic.{Logic}
use contract.Monad.{Fun}
use Rattle.table.proofs.Promising.{promising}
use Rattle.writing.specs.WritePromise.{WritePromise}
use Rattle.writing.specs.contracts.write as write

module _ {M : Type 1} {𝓤 : Ura M} (𝓛 : Logic 𝓤) (mem : Memory → SProp 𝓤) (run : Routine → Fun 𝓤) where
  pub write_tied : write.clauses 𝓛 mem run
      ≡ promising 𝓤 write.ended (λ κs a r e. WritePromise a.0.now a.1.0.now r e.1.0.now)
  write_tied = refl
