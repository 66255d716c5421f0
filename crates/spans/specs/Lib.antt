pub mod Spans
pub mod Passes
pub mod Sought
pub mod Graphs
pub mod Stamps
pub mod IdTests
