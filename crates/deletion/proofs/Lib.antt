-- FlagsSet: the flags for a fact, for for_fact. GoesBy: for is_gone. Bounds: for least_gone and past_gone. Staying: for drop_gone.
-- Keeping: for keep_rest. Deleted: for drop_gone and delete.
pub mod FlagsSet
pub mod GoesBy
pub mod Bounds
pub mod Staying
pub mod Keeping
pub mod Deleted
