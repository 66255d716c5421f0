-- An insertion leaves the smallest consistent graph.
pub mod Closure
pub mod Seeds
pub mod InsertionSmallest
pub mod AskedSeeds
pub mod InsertionSteps
pub mod Makes
pub mod MadeBy
pub mod Within
