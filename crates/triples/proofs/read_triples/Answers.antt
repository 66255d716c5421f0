-- `read_triples`: refused for its size, and the rest through a work table of zeros. Assumes nothing.
use mathlib.Core.Path.{sym, ◌∙◌}
use lib.ListN.{length}
use Rattle.rdfs.specs.Numbers.{product}
use Rattle.table.proofs.Sizes.{size_most}
use Rattle.table.proofs.Zeros.{take_zeros}
use Rattle.triples.proofs.read_triples.Goals as goal

pub read_through-requires-clause-work : goal.read_through-requires-clause-work
read_through-requires-clause-work c =
    take_zeros product.most (length c.args.table.now) (size_most c.args.table.now
    (sym c.is_bad_size.ensures.answer ∙ c.if-is_bad_size.false))
