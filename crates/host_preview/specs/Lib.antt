pub mod HostPreview
