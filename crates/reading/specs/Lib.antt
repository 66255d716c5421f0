pub mod ReadPromise
pub mod Fitting
