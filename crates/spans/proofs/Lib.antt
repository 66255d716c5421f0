-- Decided: every function that branches on a test, and the crates above. SpanPlaces: `merge` and the crates above. Entered:
-- `fill_index`; its stores and zeros for the crates above too. Covering: `from_span`, `is_among`, `is_covered`. GroupStarts:
-- `group_start`. SpanFacts: `present`, `schema`, `values`. KindWords: `words_of_kind`, and who goes through its words here and in
-- the crates above. Stamping, Comparing, Carrying: `stamps`. Passed: `values` and the crates above. Inheriting:
-- `all_inherited`.
pub mod Decided
pub mod SpanPlaces
pub mod Entered
mod Covering
mod GroupStarts
mod SpanFacts
mod Stamping
mod Comparing
pub mod Passed
pub mod KindWords
mod Carrying
mod Inheriting
