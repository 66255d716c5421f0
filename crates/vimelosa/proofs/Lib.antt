-- CheckWays: each way through `vimelosa_check`. HostTied, HostListTied, HostTriplesTied: the contracts in the source are the
-- promises that the theorems take as their premises.
pub mod CheckWays
mod HostTied
mod HostListTied
mod HostTriplesTied
