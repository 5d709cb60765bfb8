pub mod Flow
pub mod Answers
pub mod Cited
pub mod Theorems
pub mod Trials
