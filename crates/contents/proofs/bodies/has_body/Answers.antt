-- `bodies::has_body`: the number is a kind of the form, and the bytes are well formed. Assumes nothing.
use native.Mathlib.Omega.{arith}
use Rattle.contents.specs.FormOf.{form_of}
use Rattle.contents.proofs.Grouped.{kinds_from, kinds_has}
use Rattle.contents.proofs.HasBody.{no_kind, some_kind}
use Rattle.contents.proofs.bodies.has_body.Goals as goal
use Rattle.contents.proofs.bodies.has_body.Goals.{then-k-eq0-via-then-k-eq0, then-k-eq0-via-else-k-eq0+then-form-k}

pub returns-then-k-eq0 : goal.returns-then-k-eq0
returns-then-k-eq0 c =
    let F = form_of c.args.form in
    record {
      answer = no_kind F c.args.image.now c.args.k (λ i.
          let b = kinds_from 0 F.entries c.args.k i in
          elim c.then-k-eq0.branch [
            | then-k-eq0-via-then-k-eq0 w ↦ omega (arith, b.0, w.if-k-eq0.true)
            | then-k-eq0-via-else-k-eq0+then-form-k w ↦ omega (arith, b.1, w.if-form-k.true)
          ]);
    }

pub returns : goal.returns
returns c =
    record {
      answer = let F = form_of c.args.form in
          some_kind F c.args.image.now c.args.k (kinds_has 0 F.entries c.args.k (omega (arith, c.if-k-eq0.false))
          (omega (arith, c.if-form-k.false))) c.is_well_formed.result c.is_well_formed.ensures.answer;
    }
