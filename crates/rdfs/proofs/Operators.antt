-- Operators' tickets: which kinds they have, what they put in and take out, what a list of them keeps.
pub mod OperatorSteps
pub mod Enters
pub mod Takes
pub mod KeepsOthers
