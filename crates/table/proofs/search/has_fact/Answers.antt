-- `search::has_fact`: the fact is there if its word is. Assumes nothing.
use mathlib.Core.Path.{ap, ◌∙◌}
use Rattle.rdfs.specs.Lists.{member}
use Rattle.table.proofs.CountedLaws.{full_ascending}
use Rattle.table.proofs.FactLookup.{has_word_of}
use Rattle.table.proofs.search.has_fact.Goals as goal

pub has_word-requires : goal.has_word-requires
has_word-requires c = record { words = full_ascending c.requires.facts }

pub returns : goal.returns
returns c =
    record {
      answer = c.has_word.ensures.answer ∙ (ap (member c.args.facts.now) c.word_of.ensures.answer
          ∙ has_word_of c.requires.facts c.requires.fact);
    }
