pub mod Values
pub mod Links
pub mod Seen
