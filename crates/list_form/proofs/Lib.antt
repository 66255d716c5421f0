-- For the crates above. CutOff: the tickets of bytes, and of a list cut off. Runs: lengths, what a run keeps, one ticket more.
-- Walked: a loop over tickets. ByteWalk: a loop over the bytes of a list. ListCall: a list call from its refusal, its loop and
-- its counts.
pub mod CutOff
pub mod Runs
pub mod Walked
pub mod ByteWalk
pub mod ListCall
