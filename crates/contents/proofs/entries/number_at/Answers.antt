use native.Mathlib.Omega.{arith}
use Rattle.contents.proofs.InBytes.{number_bound}
use Rattle.contents.proofs.NumberRead.{summed_start, summed_small, summed_more, summed_all}
use Rattle.contents.proofs.entries.number_at.Goals as goal

pub overflow_mul-value : goal.overflow_mul-value
overflow_mul-value c =
    omega (
      arith,
      summed_small c.loop-left.invariant (λ i. omega (arith, c.type_inv.image i))
          c.loop-left-test.true c.requires.few,
    )

pub overflow_add-value : goal.overflow_add-value
overflow_add-value c =
    omega (
      arith,
      summed_small c.loop-left.invariant (λ i. omega (arith, c.type_inv.image i))
          c.loop-left-test.true c.requires.few,
      c.byte_at.ensures.bound,
    )

pub loop-left-preserved : goal.loop-left-preserved
loop-left-preserved c =
    summed_more c.loop-left.invariant c.requires.within c.loop-left-test.true _ c.byte_at.ensures.answer

pub returns : goal.returns
returns c =
    let all = summed_all c.loop-left.invariant (omega arith) in record {
      answer = all;
      bound = omega (
        arith,
        all,
        number_bound c.args.size c.args.image.now
            (λ i. omega (arith, c.type_inv.image i)) c.args.place,
      );
    }
