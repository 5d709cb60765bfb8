pub mod Emission
pub mod EmittedLines
pub mod Cited
pub mod Theorems
