pub mod Index
pub mod Answers
pub mod Indexing
pub mod Cited
pub mod Theorems
