pub mod Lines
pub mod Classes
pub mod Cited
pub mod Theorems
