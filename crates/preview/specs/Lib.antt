pub mod Previews
pub mod PreviewPromises
pub mod Tried
