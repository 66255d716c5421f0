-- HostPreviewWays: the ways through both functions, beside those of `host_ticket`.
mod HostPreviewWays
