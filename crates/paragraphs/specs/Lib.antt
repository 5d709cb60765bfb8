pub mod Breaks
pub mod Cited
