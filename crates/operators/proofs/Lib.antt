-- Senders: the register's step with operators' tickets or with anyone's, for the crates above. Barred: refusal 17 for the
-- functions of this crate. OperatorCallTheorems: what is proved of the call; OperatorTied: the contract in the source is its
-- premise.
pub mod Senders
mod Barred
pub mod OperatorCallTheorems
pub mod OperatorTied
