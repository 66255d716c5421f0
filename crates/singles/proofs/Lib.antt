-- ApplyEachTied: the contract in the source is a premise of demand 3.
pub mod ApplyEachTied
