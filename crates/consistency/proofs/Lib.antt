-- Visiting: `visit`. Listed, Linked, Same: `count_met`. MetLaws: `first_broken`, `check` and the crates above. Refused: `check`
-- and the crates above. Places: where a rule stands. OrderTheorems: what is proved of the visit and of `check`;
-- OrderTied: their contracts.
mod Listed
pub mod MetLaws
mod Places
mod Visiting
mod Same
mod Linked
pub mod Refused
pub mod OrderTheorems
pub mod OrderTied
