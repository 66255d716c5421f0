-- `Spans::is_under_resource` meets its contract. Assumes nothing.
use Rattle.spans.proofs.Decided.{decides_as}
use Rattle.spans.proofs.Spans.is_under_resource.Goals as goal

pub returns-else-a-eq-RESOURCE : goal.returns-else-a-eq-RESOURCE
returns-else-a-eq-RESOURCE c =
    record { answer = decides_as c.has_least.result _ _ (λ h n. h) (λ h. h c.if-a-eq-RESOURCE.false) c.has_least.ensures.answer }
