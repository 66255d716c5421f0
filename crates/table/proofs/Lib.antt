-- TestAnswers: answers of tests, for is_bad_size, is_fact and the search. InTurn: tests made in turn, for the crates above.
-- Arity: kinds and how many ids they have. PartLaws: a word's kind and ids, for is_fact. FactParts: a word and its fact.
-- LayoutWalks: for count_rising and is_zero_from. Halving: for count_facts and count_below. Filled: for count_facts. CountedLaws:
-- a table with the number of its facts. Below: for count_below, count_up_to, find and has_word. Moved: for put_at and clear_from.
-- FactLookup: for has_fact. Copied: for copy_words. PutPlace, StoredWord: for store. Sizes: for is_bad_size. TableRefusals: for
-- layout_refusal. Promising: for the ties in the crates above. Overlaid: for what is written over lent bytes in the crates
-- above. Zeros: for tables of zeros in the crates above. Most serve the crates above too.
pub mod TestAnswers
pub mod InTurn
pub mod Arity
pub mod PartLaws
pub mod FactParts
pub mod LayoutWalks
pub mod Halving
pub mod Filled
pub mod CountedLaws
pub mod CutTable
pub mod Below
pub mod Moved
pub mod FactLookup
pub mod PutPlace
pub mod StoredWord
pub mod Sizes
pub mod TableRefusals
pub mod RefusalNumbers
pub mod Promising
pub mod Overlaid
pub mod Zeros
