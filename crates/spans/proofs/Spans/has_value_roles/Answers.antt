-- `Spans::has_value_roles` meets its contract. Assumes nothing.
use mathlib.Core.Logic.{inl, inr, ⊎_elim}
use Rattle.table.proofs.TestAnswers.{decides_true, decides_false}
use Rattle.spans.proofs.Decided.{decides_as, decides_first, decides_either}
use Rattle.spans.proofs.Spans.has_value_roles.Goals as goal

pub returns-else-has_both : goal.returns-else-has_both
returns-else-has_both c =
    record { answer = decides_first c.has_both.result _ _ (λ h. (h.0, h.1)) c.if-has_both.false c.has_both.ensures.answer }

pub returns-then-has_least : goal.returns-then-has_least
returns-then-has_least c =
    record {
      answer = let roles = decides_true c.has_both.result c.has_both.ensures.answer c.if-has_both.true in
          decides_either c.has_least.result _ _ (λ h. (roles.0, roles.1, inl h)) c.if-has_least.true
          c.has_least.ensures.answer;
    }

pub returns-else-has_least : goal.returns-else-has_least
returns-else-has_least c =
    record {
      answer = let roles = decides_true c.has_both.result c.has_both.ensures.answer c.if-has_both.true in
          let not-individual = decides_false c.has_least.result c.has_least.ensures.answer c.if-has_least.false in
          decides_as c.has_least-else-has_least.result _ _ (λ h. (roles.0, roles.1, inr h))
          (λ h. ⊎_elim (λ x. absurd (not-individual x)) (λ x. x) h.2) c.has_least-else-has_least.ensures.answer;
    }
