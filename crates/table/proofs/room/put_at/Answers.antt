-- `room::put_at`: the words from the place on stand one place up, and the word is stored there. Assumes nothing.
use mathlib.Core.Path.{ap, ◌∙◌}
use native.Mathlib.Omega.{arith}
use native.Mathlib.Numerals.{add-one}
use lib.ListN.{set}
use Rattle.std.specs.List.{copy_within}
use Rattle.table.proofs.Moved.{moved_within, moved_set}
use Rattle.table.proofs.room.put_at.Goals as goal

pub returns : goal.returns
returns c =
    let t = c.args.table.now in
    let n = c.args.count in
    let i = c.args.place in
    record {
      words = ap (λ u. set u i c.args.word) (c.copy_within.ensures.after ∙ ap (copy_within t i n) (add-one i)
          ∙ moved_within t n i c.requires.place) ∙ moved_set t n i (omega (arith, c.requires.place, c.requires.room)) c.args.word;
    }
