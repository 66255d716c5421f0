pub mod WritePromise
pub mod KindEnds
pub mod Writing
