-- `read`: each refusal in its order, and the rest through a work table of zeros. Assumes nothing.
use native.Mathlib.Omega.{arith}
use mathlib.Core.Path.{sym, ap, subst, ◌∙◌}
use Prim.Native.Nat.{◌≤◌, ◌<◌}
use lib.ListN.{length}
use lib.Seq.{length-take-le}
use Rattle.rdfs.specs.Numbers.{product}
use Rattle.table.specs.Refused.{number}
use Rattle.table.proofs.Sizes.{size_most}
use Rattle.table.proofs.Zeros.{take_zeros}
use Rattle.reading.proofs.ReadCall.{read_refused, read_small, read_malformed}
use Rattle.reading.proofs.ReadForms.{right_read, wrong_read, overfull_read, fitting_read}
use mathlib.Core.Bool.{not}
use Rattle.reading.proofs.read.Goals as goal

pub returns-then-is_bad_size : goal.returns-then-is_bad_size
returns-then-is_bad_size c =
    record {
      promise = read_refused c.args.table.now c.args.image.now 1
          (read_small c.args.table.now c.args.image.now (sym c.is_bad_size.ensures.answer ∙ c.if-is_bad_size.true)) (omega arith);
    }

pub returns-then-not-has_contents : goal.returns-then-not-has_contents
returns-then-not-has_contents c =
    record {
      promise = read_refused c.args.table.now c.args.image.now 12
          (read_malformed c.args.table.now c.args.image.now (sym c.is_bad_size.ensures.answer ∙ c.if-is_bad_size.false)
          (wrong_read c.args.image.now c.of-form.ensures.answer c.has_contents.result
          c.has_contents.ensures.answer (λ i. omega (arith, c.type_inv.image i)) (ap not c.if-not-has_contents.true)))
          (omega arith);
    }

pub count_words-requires : goal.count_words-requires
count_words-requires c =
    record {
      contents = right_read _ c.of-form.ensures.answer c.has_contents.result c.has_contents.ensures.answer
          (ap not c.if-not-has_contents.false);
    }

pub overfull_refusal-requires : goal.overfull_refusal-requires
overfull_refusal-requires c =
    record {
      contents = right_read _ c.of-form.ensures.answer c.has_contents.result
          c.has_contents.ensures.answer (ap not c.if-not-has_contents.false);
    }

pub returns-then-room-count_words : goal.returns-then-room-count_words
returns-then-room-count_words c =
    record {
      promise = let many = subst (λ n. length c.args.table.now < n) c.count_words.ensures.answer c.if-room-count_words.true in
          let refused = overfull_read c.args.table.now c.args.image.now c.of-form.ensures.answer
          (sym c.is_bad_size.ensures.answer ∙ c.if-is_bad_size.false) many (number c.overfull_refusal.result)
          c.overfull_refusal.ensures.answer in
          read_refused c.args.table.now c.args.image.now (number c.overfull_refusal.result) refused.0 refused.1;
    }

pub slice_bounds-work-end : goal.slice_bounds-work-end
slice_bounds-work-end c = size_most c.args.table.now (sym c.is_bad_size.ensures.answer ∙ c.if-is_bad_size.false)

pub slice_bounds-read_through-end : goal.slice_bounds-read_through-end
slice_bounds-read_through-end c =
    sym (length-take-le _ _ (size_most c.args.table.now (sym c.is_bad_size.ensures.answer ∙ c.if-is_bad_size.false)))

pub read_through-requires-clause-fitting : goal.read_through-requires-clause-fitting
read_through-requires-clause-fitting c =
    let right = right_read _ c.of-form.ensures.answer c.has_contents.result
    c.has_contents.ensures.answer (ap not c.if-not-has_contents.false) in
    fitting_read c.args.table.now c.args.image.now c.of-form.ensures.answer
    (sym c.is_bad_size.ensures.answer ∙ c.if-is_bad_size.false) right
    (subst (λ n. n ≤ length c.args.table.now) c.count_words.ensures.answer c.if-room-count_words.false)

pub read_through-requires-clause-zeros : goal.read_through-requires-clause-zeros
read_through-requires-clause-zeros c =
    take_zeros product.most (length c.args.table.now)
    (size_most c.args.table.now (sym c.is_bad_size.ensures.answer ∙ c.if-is_bad_size.false))
