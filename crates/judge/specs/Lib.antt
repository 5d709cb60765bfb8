pub mod Answers
pub mod Checking
pub mod Theorems
pub mod Cited
