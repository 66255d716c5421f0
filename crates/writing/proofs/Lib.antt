-- For functions: KindCount and EndsFound (find_ends), Stretches (put_bodies), Measuring (how long an image can be), EndsLaws
-- (image_length, put_contents, write_checked), BytesPut (put_bytes), PutEntry
-- (put_entry), PutFact (put_fact), PutParts (put_contents, put_stretch, put_bodies), WriteCall (write, write_checked,
-- length_checked). Measuring and WriteCall serve the crates above too. WriteTied: the contract of `write` in the source is its
-- promise.
pub mod KindCount
pub mod EndsFound
pub mod Stretches
pub mod Measuring
pub mod EndsLaws
pub mod BytesPut
pub mod PutEntry
pub mod PutFact
pub mod PutParts
pub mod WriteCall
mod WriteTied
