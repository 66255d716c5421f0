-- The contract of `body` in the source is the promise that the theorem on the call takes as a premise, and it asks nothing of
-- a caller: a change of either is refused here. Assumes nothing.
use mathlib.Core.Path.{◌≡◌, refl}
use seplogic.Ra.Ura.{Ura}
use base.Logic.{SProp}
use prog.Memory.{Memory}
use prog.Routine.{Routine}
use types.Logic.{Logic}
use contract.Monad.{Fun}
use Rattle.table.proofs.Promising.{promising}
use Rattle.contents.specs.BodyPromise.{BodyPromise}
use Rattle.contents.specs.contracts.body as body

module _ {M : Type 1} {𝓤 : Ura M} (𝓛 : Logic 𝓤) (mem : Memory → SProp 𝓤) (run : Routine → Fun 𝓤) where
  pub body_tied : body.clauses 𝓛 mem run ≡ promising 𝓤 body.ended (λ κs a r e. BodyPromise a.0 a.1.0 r)
  body_tied = refl
