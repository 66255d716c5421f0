-- The contracts of `ask` and `commit` in the source are the promises that the theorems on the calls take as their premises, and
-- they ask nothing of a caller: a change of either is refused here. Assumes nothing.
use mathlib.Core.Path.{◌≡◌, refl}
use seplogic.Ra.Ura.{Ura}
use base.Logic.{SProp}
use prog.Memory.{Memory}
use prog.Routine.{Routine}
use types.Logic.{Logic}
use contract.Monad.{Fun}
use Rattle.table.proofs.Promising.{promising}
use Rattle.preview.specs.PreviewPromises.{AskPromise, CommitPromise}
use Rattle.preview.specs.contracts.ask as ask
use Rattle.preview.specs.contracts.commit as commit

module _ {M : Type 1} {𝓤 : Ura M} (𝓛 : Logic 𝓤) (mem : Memory → SProp 𝓤) (run : Routine → Fun 𝓤) where
  pub ask_tied : ask.clauses 𝓛 mem run
      ≡ promising 𝓤 ask.ended (λ κs a r e. AskPromise a.0.now a.1.0.now a.1.1.0.now a.1.1.1.0.now r
      e.1.1.0.now e.1.1.1.0.now)
  ask_tied = refl

  pub commit_tied : commit.clauses 𝓛 mem run
      ≡ promising 𝓤 commit.ended (λ κs a r e. CommitPromise a.0.now a.1.0.now a.1.1.0.now
      a.1.1.1.0.now r
      e.0.now)
  commit_tied = refl
