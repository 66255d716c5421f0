pub mod Looked
pub mod Holders
pub mod Above
