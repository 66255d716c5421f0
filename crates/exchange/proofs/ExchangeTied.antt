-- The contracts of `to_text` and `to_image` in the source are the promises that the theorems on the calls take as premises, and
-- they ask nothing of a caller: a change of either is refused here. Assumes nothing.
use mathlib.Core.Path.{◌≡◌, refl}
use seplogic.Ra.Ura.{Ura}
use base.Logic.{SProp}
use prog.Memory.{Memory}
use prog.Routine.{Routine}
use types.Logic.{Logic}
use contract.Monad.{Fun}
use Rattle.table.proofs.Promising.{promising}
use Rattle.exchange.specs.ToText.{ToTextPromise}
use Rattle.exchange.specs.ToImage.{ToImagePromise}
use Rattle.exchange.specs.contracts.to_text as text
use Rattle.exchange.specs.contracts.to_image as image

module _ {M : Type 1} {𝓤 : Ura M} (𝓛 : Logic 𝓤) (mem : Memory → SProp 𝓤) (run : Routine → Fun 𝓤) where
  pub to_text_tied : text.clauses 𝓛 mem run
      ≡ promising 𝓤 text.ended (λ κs a r e. ToTextPromise a.0.now a.1.0.now r e.1.0.now)
  to_text_tied = refl

  pub to_image_tied : image.clauses 𝓛 mem run
      ≡ promising 𝓤 image.ended (λ κs a r e. ToImagePromise a.0.now a.1.0.now r e.1.0.now)
  to_image_tied = refl
