-- The contract of `apply_list` in the source is the promise that demand 3 takes as a premise, and it asks nothing of a caller: a
-- change of either is refused here. The other calls are tied in their own crates. Assumes nothing.
use mathlib.Core.Path.{◌≡◌, refl}
use seplogic.Ra.Ura.{Ura}
use base.Logic.{SProp}
use prog.Memory.{Memory}
use prog.Routine.{Routine}
use types.Logic.{Logic}
use contract.Monad.{Fun}
use Rattle.table.proofs.Promising.{promising}
use Rattle.list_form.specs.Listing.{ListPromise}
use Rattle.list.specs.contracts.apply_list as call

module _ {M : Type 1} {𝓤 : Ura M} (𝓛 : Logic 𝓤) (mem : Memory → SProp 𝓤) (run : Routine → Fun 𝓤) where
  pub apply_list_tied : call.clauses 𝓛 mem run
      ≡ promising 𝓤 call.ended
      (λ κs a r e. ListPromise a.0.now a.1.0.now a.1.1.0.now r e.0.now e.1.1.0.now)
  apply_list_tied = refl
