-- The contracts of the host's calls on texts in the source are the promises that the theorems on the calls take as a premise, and
-- they ask nothing of a caller: a change of either is refused here. Assumes nothing.
use mathlib.Core.Path.{◌≡◌, refl}
use seplogic.Ra.Ura.{Ura}
use base.Logic.{SProp}
use prog.Memory.{Memory}
use prog.Routine.{Routine}
use types.Logic.{Logic}
use contract.Monad.{Fun}
use Rattle.table.proofs.Promising.{promising}
use Rattle.vimelosa.specs.HostTriples.{HostWriteTriplesPromise, HostReadTriplesPromise}
use Rattle.vimelosa.specs.contracts.triples_call.vimelosa_write_triples as write
use Rattle.vimelosa.specs.contracts.triples_call.vimelosa_read_triples as read

module _ {M : Type 1} {𝓤 : Ura M} (𝓛 : Logic 𝓤) (mem : Memory → SProp 𝓤) (run : Routine → Fun 𝓤) where
  pub host_write_triples_tied : write.clauses 𝓛 mem run
      ≡ promising 𝓤 write.ended (λ κs a r e. HostWriteTriplesPromise a.0.now a.1.0.now r e.1.0.now)
  host_write_triples_tied = refl

  pub host_read_triples_tied : read.clauses 𝓛 mem run
      ≡ promising 𝓤 read.ended (λ κs a r e. HostReadTriplesPromise a.0.now a.1.0.now r e.1.0.now)
  host_read_triples_tied = refl
