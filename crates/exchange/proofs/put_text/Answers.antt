-- `put_text`: with room for the longest text, 13 cannot come. Assumes nothing.
use mathlib.Core.Path.{◌∙◌}
use Rattle.exchange.proofs.PrintedLaws.{text_put, put_as, text_told}
use Rattle.exchange.proofs.put_text.Goals as goal

pub returns : goal.returns
returns c =
    let put = put_as (c.unwrap_or.ensures ∙ text_told c.to_text.result) (text_put c.args.image.now c.args.out.now
    c.requires.room c.to_text.result c.to_text.new.output c.to_text.ensures.promise) in
    record { printed = put.there; within = put.within }
