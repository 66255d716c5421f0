-- ImageTheorems: what is proved of images. ImageCallTheorems: what is proved of the calls from their contracts, which are tied to
-- the source in the crates of the calls.
pub mod ImageTheorems
pub mod ImageCallTheorems
