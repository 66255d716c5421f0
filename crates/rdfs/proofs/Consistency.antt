-- What the rules demand, what they forbid, what they ask to exist; the decision.
pub mod LawfulParts
pub mod Needs
pub mod Holders
pub mod Clashing
pub mod Decision
