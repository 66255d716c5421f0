-- Saved: what a call's number says, and what a call with one ticket leaves in the output. HostSingles: single calls one after
-- another. HostTheorems, HostListTheorems, HostOperatorTheorems, HostPreviewTheorems, HostCheckTheorems, HostTriplesTheorems:
-- what is proved from the promises.
pub mod Saved
pub mod HostSingles
pub mod HostTheorems
pub mod HostListTheorems
pub mod HostOperatorTheorems
pub mod HostPreviewTheorems
pub mod HostCheckTheorems
pub mod HostTriplesTheorems
