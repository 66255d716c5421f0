-- For functions: Filling (count_words, fill_body), FilledBodies (fill_words), Held (read), ReadCall (read_through, read),
-- ReadForms (read). Held and ReadCall serve the crates above too. ReadTied: the contract of `read` in the source is its promise.
pub mod Filling
pub mod FilledBodies
pub mod Held
pub mod ReadCall
pub mod ReadForms
mod ReadTied
