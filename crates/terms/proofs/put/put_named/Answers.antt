-- `put_named`: two pieces, one behind the other. Assumes nothing.
use Rattle.terms.proofs.Putting.{puts_behind}
use Rattle.terms.proofs.put.put_named.Goals as goal

pub returns : goal.returns
returns c =
    record {
      bytes = puts_behind c.args.front.now c.args.name.now c.requires.room c.put_piece-next.ensures.bytes
          c.put_piece.ensures.bytes;
    }
