-- KindWords: the words of a kind and their facts, for words_of, has_exclusive and the passes. AboveFlags: for flag_exclusive.
-- HolderLaws: for fill_holders, is_held and what notes one holder. HeldFacts: the definitions' tests, for the functions at the
-- root. Answered: their answers.
mod KindWords
mod AboveFlags
mod HolderLaws
mod HeldFacts
mod Answered
