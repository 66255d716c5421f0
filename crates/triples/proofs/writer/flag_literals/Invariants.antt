-- `writer::flag_literals`. The loop's invariant is `Walk`: the flags, with those that the words left set. Assumes nothing.
use lib.ListN.{length}
use Rattle.flags.proofs.Walks.{Walk}
use Rattle.table.specs.Parts.{first_of}
use Rattle.triples.proofs.LiteralFlags.{is_literal_word}
use Rattle.triples.proofs.writer.flag_literals.Given as goal

abbrev pub invariant-loop-word : goal.invariant-loop-word
invariant-loop-word l = Walk first_of is_literal_word l.facts 0 (length l.facts) l.initial.flags l.word-index l.flags
