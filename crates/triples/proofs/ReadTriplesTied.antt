-- The contract of `read_triples` in the source is the promise that the theorems on the call take as a premise, and it asks
-- nothing of a caller: a change of either is refused here. Assumes nothing.
use mathlib.Core.Path.{◌≡◌, refl}
use seplogic.Ra.Ura.{Ura}
use base.Logic.{SProp}
use prog.Memory.{Memory}
use prog.Routine.{Routine}
use types.Logic.{Logic}
use contract.Monad.{Fun}
use Rattle.table.proofs.Promising.{promising}
use Rattle.table.specs.Refused.{answer_of}
use Rattle.triples.specs.ReadTriples.{ReadTriplesPromise}
use Rattle.triples.specs.contracts.read_triples as read_triples

module _ {M : Type 1} {𝓤 : Ura M} (𝓛 : Logic 𝓤) (mem : Memory → SProp 𝓤) (run : Routine → Fun 𝓤) where
  pub read_triples_tied : read_triples.clauses 𝓛 mem run
      ≡ promising 𝓤 read_triples.ended (λ κs a r e. ReadTriplesPromise a.0.now a.1.0.now (answer_of r) e.0.now)
  read_triples_tied = refl
