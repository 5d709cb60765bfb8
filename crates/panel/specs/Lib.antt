pub mod Panel
pub mod Cited
