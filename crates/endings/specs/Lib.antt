pub mod Endings
pub mod Cited
