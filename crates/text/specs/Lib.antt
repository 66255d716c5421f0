pub mod Text
pub mod Digit
