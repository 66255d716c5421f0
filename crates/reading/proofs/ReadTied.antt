-- The contract of `read` in the source is the promise that the theorems on the call take as a premise, and it asks nothing of
-- a caller: a change of either is refused here. Assumes nothing.
use mathlib.Core.Path.{◌≡◌, refl}
use seplogic.Ra.Ura.{Ura}
use base.Logic.{SProp}
use prog.Memory.{Memory}
use prog.Routine.{Routine}
use types.Logic.{Logic}
use contract.Monad.{Fun}
use Rattle.table.specs.Refused.{answer_of}
use Rattle.table.proofs.Promising.{promising}
use Rattle.reading.specs.ReadPromise.{ReadPromise}
use Rattle.reading.specs.contracts.read as read

module _ {M : Type 1} {𝓤 : Ura M} (𝓛 : Logic 𝓤) (mem : Memory → SProp 𝓤) (run : Routine → Fun 𝓤) where
  pub read_tied : read.clauses 𝓛 mem run
      ≡ promising 𝓤 read.ended (λ κs a r e. ReadPromise a.0.now a.1.0.now (answer_of r) e.0.now)
  read_tied = refl
