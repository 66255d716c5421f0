-- RecordWalk: for run_records. RecordsCall: for apply_records. ApplyRecordsTied: the contract in the source is a premise of
-- demand 3.
mod RecordWalk
mod RecordsCall
pub mod ApplyRecordsTied
