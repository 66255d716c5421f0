-- HostListLaws: the parts of the list call. HostListWays: each way through it.
pub mod HostListLaws
pub mod HostListWays
