pub mod Spacing
pub mod Cited
