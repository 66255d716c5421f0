-- StepWords, Trials: a ticket tried on a copy. AskWays, CommitWays: the ways through the calls. PreviewTied: the contracts in the
-- source are the premises of the theorems on the calls.
pub mod StepWords
mod Trials
pub mod AskWays
pub mod CommitWays
pub mod PreviewTied
