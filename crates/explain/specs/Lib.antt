pub mod Reasons
pub mod Explain
pub mod Cited
pub mod Theorems
