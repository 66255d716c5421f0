-- `Spans::has_like_ranges` meets its contract: a and b have one range each, or none. Assumes nothing.
use mathlib.Core.Path.{◌≡◌}
use mathlib.Core.Bool.{beq}
use lib.Dec.{eqb}
use Rattle.spans.proofs.Decided.{decides_as, decides_eqb, decides_like}
use Rattle.spans.proofs.SpanFacts.{only_both}
use Rattle.spans.proofs.Spans.has_like_ranges.Goals as goal

pub returns-in_default : goal.returns-in_default
returns-in_default c = record { answer = λ z w p q. absurd (c.in_default.ensures.answer z p) }

pub returns-in_default-only_second : goal.returns-in_default-only_second
returns-in_default-only_second c = record { answer = λ z w p q. absurd (c.in_default-only_second.ensures.answer w q) }

pub returns : goal.returns
returns c =
    record {
      answer = decides_as (beq (eqb c.in-Some.y 1) (eqb c.in-Some-only_second.z 1)) _ _
          (λ h z w p q. only_both c.in-Some.ensures.answer c.in-Some-only_second.ensures.answer (λ x y. (x ≡ 1 → y ≡ 1) × (y ≡ 1 → x ≡ 1)) h z w p q)
          (λ f. f _ _ c.in-Some.ensures.answer.some c.in-Some-only_second.ensures.answer.some)
          (decides_like _ _ _ _ (decides_eqb c.in-Some.y 1) (decides_eqb c.in-Some-only_second.z 1));
    }
