-- The contracts of the host's calls in the source are the promises that the theorems on the calls take as a premise, and they ask
-- nothing of a caller: a change of either is refused here. Assumes nothing.
use mathlib.Core.Path.{◌≡◌, refl}
use seplogic.Ra.Ura.{Ura}
use base.Logic.{SProp}
use prog.Memory.{Memory}
use prog.Routine.{Routine}
use types.Logic.{Logic}
use contract.Monad.{Fun}
use Rattle.table.proofs.Promising.{promising}
use Rattle.host_ticket.specs.HostTicket.{HostPromise, OperatorHostPromise}
use Rattle.host_preview.specs.HostPreview.{HostAskPromise, HostCommitPromise}
use Rattle.vimelosa.specs.HostCheck.{HostCheckPromise}
use Rattle.vimelosa.specs.contracts.vimelosa_apply as host
use Rattle.vimelosa.specs.contracts.operator_call.vimelosa_apply_operator as operator
use Rattle.vimelosa.specs.contracts.preview_call.vimelosa_ask as ask
use Rattle.vimelosa.specs.contracts.preview_call.vimelosa_commit as commit
use Rattle.vimelosa.specs.contracts.check_call.vimelosa_check as check

module _ {M : Type 1} {𝓤 : Ura M} (𝓛 : Logic 𝓤) (mem : Memory → SProp 𝓤) (run : Routine → Fun 𝓤) where
  pub host_tied : host.clauses 𝓛 mem run
      ≡ promising 𝓤 host.ended
      (λ κs a r e. HostPromise a.0.now a.1.0.now a.1.1.0.now r e.1.1.0.now)
  host_tied = refl

  pub operator_host_tied : operator.clauses 𝓛 mem run
      ≡ promising 𝓤 operator.ended
      (λ κs a r e. OperatorHostPromise a.0.now a.1.0.now a.1.1.0.now r e.1.1.0.now)
  operator_host_tied = refl

  pub ask_host_tied : ask.clauses 𝓛 mem run
      ≡ promising 𝓤 ask.ended (λ κs a r e. HostAskPromise a.0.now a.1.0.now a.1.1.0.now a.1.1.1.0.now r
      e.1.1.0.now e.1.1.1.0.now)
  ask_host_tied = refl

  pub commit_host_tied : commit.clauses 𝓛 mem run
      ≡ promising 𝓤 commit.ended (λ κs a r e. HostCommitPromise a.0.now a.1.0.now a.1.1.0.now
      a.1.1.1.0.now a.1.1.1.1.0.now r e.1.1.1.1.0.now)
  commit_host_tied = refl

  pub check_tied : check.clauses 𝓛 mem run
      ≡ promising 𝓤 check.ended (λ κs a r e. HostCheckPromise a.0.now r)
  check_tied = refl
