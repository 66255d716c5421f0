-- `room::store`: the search says where the word goes. Assumes nothing.
use mathlib.Core.Path.{◌∙◌, refl}
use native.Mathlib.Omega.{arith}
use Rattle.rdfs.specs.Words.{filled}
use Rattle.table.proofs.Below.{below_within}
use Rattle.table.proofs.CutTable.{cut_within, cut_length, cut_ascending}
use Rattle.table.proofs.PutPlace.{put_at_place}
use Rattle.table.proofs.StoredWord.{search_there, search_missing}
use Rattle.table.proofs.room.store.Goals as goal

pub slice_bounds-find-end : goal.slice_bounds-find-end
slice_bounds-find-end c = cut_within c.requires.counted

pub slice_bounds-find-end-2 : goal.slice_bounds-find-end-2
slice_bounds-find-end-2 c = cut_length c.requires.counted

pub find-requires : goal.find-requires
find-requires c = record { words = cut_ascending c.requires.counted }

pub put_at-requires : goal.put_at-requires
put_at-requires c =
    let missing = search_missing c.args.table.now c.args.count c.requires.counted c.args.word c.in-Err.place
    c.find.result c.find.ensures.answer c.in-Err.is in record {
      place = omega (arith, missing.1, c.requires.counted.size, below_within c.args.word (filled c.args.table.now));
      room = c.if-count-table.true;
    }

pub returns-in-Ok : goal.returns-in-Ok
returns-in-Ok c =
    record {
      words = let there = search_there c.args.table.now c.args.count c.requires.counted c.args.word
          c.in-Ok.field-0 c.find.result c.find.ensures.answer c.in-Ok.is in
          (there, refl);
    }

pub returns-then-count-table : goal.returns-then-count-table
returns-then-count-table c =
    record {
      words = let missing = search_missing c.args.table.now c.args.count c.requires.counted c.args.word c.in-Err.place
          c.find.result c.find.ensures.answer c.in-Err.is in
          record {
            new = missing.0;
            room = omega (arith, c.if-count-table.true, c.requires.counted.size);
            words = c.put_at.ensures.words
                ∙ put_at_place c.args.table.now c.args.count c.requires.counted c.args.word missing.0 c.if-count-table.true
                c.in-Err.place missing.1;
          };
    }

pub returns-else-count-table : goal.returns-else-count-table
returns-else-count-table c =
    record {
      words = let missing = search_missing c.args.table.now c.args.count c.requires.counted c.args.word
          c.in-Err.place c.find.result c.find.ensures.answer c.in-Err.is in
          record { new = missing.0; full = omega (arith, c.if-count-table.false, c.requires.counted.size); words = refl };
    }
