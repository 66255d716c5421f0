pub mod Texts
pub mod TextRead
pub mod WriteTriples
pub mod ReadTriples
pub mod Lone
pub mod Writing
pub mod Storing
