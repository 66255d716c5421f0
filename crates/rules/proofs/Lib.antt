-- Meeting: for meets. Passing: for all_meet.
mod Meeting
mod Passing
