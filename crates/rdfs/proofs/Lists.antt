-- Tests by their connectives; lists: members, ascending lists, filters, counts.
pub mod Tests
pub mod ListLaws
pub mod SameList
pub mod Sorted
pub mod Filters
pub mod Counts
