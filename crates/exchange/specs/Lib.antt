pub mod ToText
pub mod PlaceTold
pub mod ToImage
pub mod Printed
