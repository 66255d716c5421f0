-- `reader::store_words`: the words by the form that the image is read in. Assumes nothing.
use Prim.Native.Nat.{◌≤◌}
use mathlib.Core.Path.{sym, ap, subst, ◌∙◌}
use mathlib.Core.List.{◌++◌}
use lib.ListN.{length, drop}
use Rattle.rdfs.specs.Numbers.{product}
use Rattle.contents.specs.Reading.{words_of}
use Rattle.contents.specs.Contents.{Contents}
use Rattle.reading.proofs.reader.store_words.Goals as goal

pub fill_words-requires : goal.fill_words-requires
fill_words-requires c =
    let own = sym c.of.ensures.answer in record {
      contents = subst (λ F. Contents F c.args.image.now) own c.requires.contents;
      room = subst (λ F. length (words_of product F c.args.image.now) ≤ length c.args.table.now) own c.requires.room;
    }

pub returns : goal.returns
returns c =
    record {
      words = c.fill_words.ensures.words
          ∙ ap (λ F. words_of product F c.args.image.now ++ drop (length (words_of product F c.args.image.now)) c.args.table.now)
          c.of.ensures.answer;
    }
