-- `put_answer`: the answer has at most two digits, so that it and the newline have room. Assumes nothing.
use mathlib.Core.Path.{subst, ◌∙◌}
use native.Mathlib.Omega.{arith}
use lib.ListN.{replicate}
use Rattle.rdfs.specs.Numbers.{product}
use Rattle.text.specs.Text.{Number, Puts}
use Rattle.text.proofs.PutText.{number_fits, number_end}
use Rattle.check_triples.proofs.AnswerSmall.{answer_small}
use Rattle.check_triples.proofs.put_answer.Goals as goal

pub put_number-requires : goal.put_number-requires
put_number-requires c =
    let answer = c.answer_of-answer in
    let is = answer.ensures.answer ∙ c.read_triples.ensures.promise.answer_is in
    let small = answer_small (replicate product.most 0) c.args.text.now answer.result is in
    record { room = number_fits 2 answer.result _ (omega arith) small 0 c.args.out.now (omega (arith, c.requires.room)) }

pub returns : goal.returns
returns c =
    let answer = c.answer_of-answer in
    let is = answer.ensures.answer ∙ c.read_triples.ensures.promise.answer_is in
    let small = answer_small (replicate product.most 0) c.args.text.now answer.result is in
    let end = number_end 2 answer.result 10 (omega arith) small c.put_number.ensures.text in record {
      printed = subst (λ n. Puts (Number n 10) 0 c.put_number.result c.args.out.now c.put_number.new.out)
          is c.put_number.ensures.text;
      within = omega (arith, end, c.requires.room, c.put_number.auto.out);
    }
