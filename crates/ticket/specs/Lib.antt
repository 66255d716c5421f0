pub mod Ready
pub mod Answered
pub mod Demand1
