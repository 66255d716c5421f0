pub mod Alone
pub mod Joined
pub mod FactWords
pub mod Partners
