-- `Spans::is_inherited` meets its contract: the links of c are covered by the values with the same subject and object. Assumes
-- nothing.
use mathlib.Core.Path.{subst, sym}
use Rattle.table.specs.Parts.{third_of}
use Rattle.spans.specs.Spans.{span_at}
use Rattle.spans.specs.Passes.{Covered}
use Rattle.spans.proofs.Decided.{decides_as}
use Rattle.spans.proofs.SpanFacts.{group_word, covered_inherited, inherited_covered}
use Rattle.spans.proofs.Spans.is_inherited.Goals as goal

pub returns : goal.returns
returns c =
    record {
      answer = let covered = rw (c.span_at.ensures.answer, c.third_of-c.ensures.answer) at c.is_covered.ensures.answer in
          decides_as c.is_covered.result _ _
          (λ h. covered_inherited c.args.self.now.table.now _ _ _ c.requires.value.fact.allowed.first c.requires.value.fact.allowed.second c.requires.value.fact.allowed.third (subst (Covered c.args.self.now.table.now (span_at 6 (third_of c.args.word)))
          (group_word c.args.word c.requires.value.value) h))
          (λ h. subst (Covered c.args.self.now.table.now (span_at 6 (third_of c.args.word))) (sym (group_word c.args.word c.requires.value.value)) (inherited_covered c.args.self.now.table.now _ _ _
          c.requires.value.fact.allowed.first c.requires.value.fact.allowed.second c.requires.value.fact.allowed.third c.args.self.now.indexed.words h))
          covered;
    }
