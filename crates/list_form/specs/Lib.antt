pub mod Listing
pub mod Loops
