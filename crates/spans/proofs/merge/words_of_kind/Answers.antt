-- `merge::words_of_kind` meets its contract: the words from the kind's least word up to the next kind's. Assumes nothing.
use Rattle.spans.proofs.KindWords.{stretch_ascends, stretch_of_kind}
use Rattle.spans.proofs.merge.words_of_kind.Goals as goal

pub slice_bounds-result-count : goal.slice_bounds-result-count
slice_bounds-result-count c =
    stretch_ascends c.requires.words _ c.word_of.ensures.answer c.word_of-2.ensures.answer c.place_of-from.ensures.answer
    c.place_of-to.ensures.answer

pub slice_bounds-result-start : goal.slice_bounds-result-start
slice_bounds-result-start c =
    stretch_ascends c.requires.words _ c.word_of.ensures.answer c.word_of-2.ensures.answer c.place_of-from.ensures.answer
    c.place_of-to.ensures.answer

pub returns : goal.returns
returns c =
    record {
      words = stretch_of_kind c.requires.words _ c.word_of.ensures.answer c.word_of-2.ensures.answer
          c.place_of-from.ensures.answer c.place_of-to.ensures.answer;
    }
