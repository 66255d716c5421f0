pub mod Deleting
pub mod FlagsFor
pub mod FlagTests
pub mod Filtering
