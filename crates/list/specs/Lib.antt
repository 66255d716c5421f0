pub mod CallContracts
pub mod Demand3
pub mod OperatorLists
