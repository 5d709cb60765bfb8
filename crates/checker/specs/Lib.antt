pub mod Acceptable
pub mod Named
pub mod Matching
pub mod Cited
