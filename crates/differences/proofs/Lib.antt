-- Newcomers, Searching: for `next_besides`; Matching: for the loops over it; Missings: tables cut to their facts.
mod Newcomers
mod Searching
pub mod Matching
mod Missings
