-- TypingWords: for FromTypings. FromTypings: for from_domains and from_ranges. AloneGroups: for alone_of. Raised: for joined_of.
-- Joins: for is_partner, Raised, NextPartners and the crate above. NextPartners: for next_within, next_of_kinds and next_partner.
-- WordPlaces: for NextPartners and the crate above. FactWordLaws: for TypingWords, FromTypings and the crate above.
pub mod FactWordLaws
pub mod WordPlaces
pub mod Joins
mod NextPartners
mod TypingWords
mod FromTypings
mod Raised
mod AloneGroups
