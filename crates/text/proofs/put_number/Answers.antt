-- `put_number`: the digits are copied whole, and the byte after them has room. Assumes nothing.
use Rattle.std.proofs.Common.{arith, ap, ◌∙◌, ◌+◌, ◌-◌, ◌++◌, length, take}
use Rattle.std.proofs.lemmas.Slice.{take-put_mid}
use borrow.Rule.Slice.PartMut.{same_len_mid}
use Rattle.text.proofs.PutText.{digits_fit, number_put, digits_length}
use Rattle.text.proofs.put_number.Goals as goal

pub bounds-out-end : goal.bounds-out-end
bounds-out-end c =
    let at = c.args.at in
    let digits = c.copy_from_slice.new.self in
    let fit = digits_fit c.args.number c.args.after at c.decimal-count.result c.args.out.now c.requires.room
    c.decimal-count.ensures.len in
    omega (arith, fit, same_len_mid at _ c.args.out.now digits c.copy_from_slice.ensures.len)

pub returns : goal.returns
returns c =
    let at = c.args.at in
    let count = c.decimal-count.result in
    let out = c.args.out.now in
    let fit = digits_fit c.args.number c.args.after at count out c.requires.room c.decimal-count.ensures.len in
    let digits = c.copy_from_slice.ensures.after ∙ c.decimal-count.ensures.digits in
    let long = ap length digits ∙ digits_length count c.args.number in
    let kept = same_len_mid at (at + count - at) out _ c.copy_from_slice.ensures.len in
    let put = take-put_mid at (at + count - at) out c.copy_from_slice.new.self (at + count) (omega (arith, long)) (omega (arith, fit)) in
    record {
      text = number_put at c.args.number count c.args.after out _ (omega (arith, fit, kept)) c.decimal-count.ensures.len
          (put ∙ ap (λ l. take at out ++ l) digits);
    }
