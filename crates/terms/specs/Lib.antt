pub mod Terms
pub mod Putting
pub mod TermRead
