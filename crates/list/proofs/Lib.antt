-- Unanswered: the loop of `run_unanswered`. Taken, Singles, ListTheorem: the theorem on a whole list; OperatorListTheorems: on
-- one of operators' tickets. ApplyListTied, OperatorListTied: the contracts in the source are their premises.
mod Unanswered
mod Taken
mod Singles
pub mod ListTheorem
pub mod OperatorListTheorems
pub mod ApplyListTied
pub mod OperatorListTied
