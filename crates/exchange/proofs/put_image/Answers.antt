-- `put_image`: with room for the longest image, 13 cannot come. Assumes nothing.
use mathlib.Core.Path.{◌∙◌}
use Rattle.exchange.proofs.PrintedLaws.{image_put, put_as, image_told}
use Rattle.exchange.proofs.put_image.Goals as goal

pub returns : goal.returns
returns c =
    let put = put_as (c.unwrap_or-written.ensures ∙ image_told c.to_image.result) (image_put c.args.text.now c.args.out.now
    c.requires.room c.to_image.result c.to_image.new.output c.to_image.ensures.promise) in
    record { printed = put.there; within = put.within }
