-- HostWays: each way through `apply_on_image`.
pub mod HostWays
