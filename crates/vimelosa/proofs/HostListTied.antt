-- The contracts of the host's list calls in the source are the promises that the theorems on the calls take as a premise, and
-- they ask nothing of a caller: a change of either is refused here. Assumes nothing.
use mathlib.Core.Path.{◌≡◌, refl}
use seplogic.Ra.Ura.{Ura}
use base.Logic.{SProp}
use prog.Memory.{Memory}
use prog.Routine.{Routine}
use types.Logic.{Logic}
use contract.Monad.{Fun}
use Rattle.table.proofs.Promising.{promising}
use Rattle.host_list.specs.HostList.{HostListPromise, OperatorHostListPromise}
use Rattle.vimelosa.specs.contracts.list_call.vimelosa_apply_list as host
use Rattle.vimelosa.specs.contracts.operator_call.vimelosa_apply_operator_list as operator

module _ {M : Type 1} {𝓤 : Ura M} (𝓛 : Logic 𝓤) (mem : Memory → SProp 𝓤) (run : Routine → Fun 𝓤) where
  pub host_list_tied : host.clauses 𝓛 mem run
      ≡ promising 𝓤 host.ended
      (λ κs a r e. HostListPromise a.0.now a.1.0.now a.1.1.0.now a.1.1.1.0.now r e.1.1.0.now
      e.1.1.1.0.now)
  host_list_tied = refl

  pub operator_host_list_tied : operator.clauses 𝓛 mem run
      ≡ promising 𝓤 operator.ended
      (λ κs a r e. OperatorHostListPromise a.0.now a.1.0.now a.1.1.0.now a.1.1.1.0.now r e.1.1.0.now e.1.1.1.0.now)
  operator_host_list_tied = refl
