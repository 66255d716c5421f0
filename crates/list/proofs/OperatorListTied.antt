-- The contract of `apply_operator_list` in the source is the promise that the theorem on the operators' calls takes as a premise,
-- and it asks nothing of a caller: a change of either is refused here. Assumes nothing.
use mathlib.Core.Path.{◌≡◌, refl}
use seplogic.Ra.Ura.{Ura}
use base.Logic.{SProp}
use prog.Memory.{Memory}
use prog.Routine.{Routine}
use types.Logic.{Logic}
use contract.Monad.{Fun}
use Rattle.table.proofs.Promising.{promising}
use Rattle.list_form.specs.Listing.{OperatorListPromise}
use Rattle.list.specs.contracts.apply_operator_list as call

module _ {M : Type 1} {𝓤 : Ura M} (𝓛 : Logic 𝓤) (mem : Memory → SProp 𝓤) (run : Routine → Fun 𝓤) where
  pub operator_list_tied : call.clauses 𝓛 mem run
      ≡ promising 𝓤 call.ended
      (λ κs a r e. OperatorListPromise a.0.now a.1.0.now a.1.1.0.now r e.0.now e.1.1.0.now)
  operator_list_tied = refl
