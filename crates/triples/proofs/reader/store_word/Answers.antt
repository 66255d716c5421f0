-- `reader::store_word`, by what `store` answers. Assumes nothing.
use Rattle.triples.proofs.Pending.{one_there, one_added, one_full}
use Rattle.triples.proofs.reader.store_word.Goals as goal

pub returns-in-There : goal.returns-in-There
returns-in-There c =
    record {
      words = one_there c.args.table.now c.args.word c.requires.counted c.requires.fact c.store.new.table
          c.store.ensures.words c.in-There.is;
    }

pub returns-in-Added : goal.returns-in-Added
returns-in-Added c =
    record {
      words = one_added c.args.table.now c.args.word c.requires.counted c.requires.fact c.store.new.table
          c.store.ensures.words c.in-Added.is;
    }

pub returns-in-NoRoom : goal.returns-in-NoRoom
returns-in-NoRoom c =
    record {
      words = one_full c.args.table.now c.args.word c.requires.counted c.requires.fact c.store.new.table
          c.store.ensures.words c.in-NoRoom.is;
    }
