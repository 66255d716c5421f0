-- Refused: a refusal in a call's number, for the crates above.
pub mod Refused
