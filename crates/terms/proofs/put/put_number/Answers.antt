-- `put_number`: a piece, the digits and a piece, one behind the other. Assumes nothing.
use mathlib.Core.List.{◌++◌}
use Rattle.terms.specs.Terms.{decimal}
use Rattle.terms.proofs.Putting.{room_behind, puts_behind}
use Rattle.terms.proofs.put.put_number.Goals as goal

pub returns : goal.returns
returns c =
    record {
      bytes = let text = decimal c.args.n in
          puts_behind c.args.before.now (text ++ c.args.after.now) c.requires.room c.put_piece-digits.ensures.bytes
          (puts_behind text c.args.after.now (room_behind c.args.before.now (text ++ c.args.after.now) c.requires.room
          c.put_piece-digits.ensures.bytes) c.put_decimal-last.ensures.bytes
          c.put_piece.ensures.bytes);
    }
