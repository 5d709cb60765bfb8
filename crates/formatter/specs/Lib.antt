pub mod Answers
pub mod Format
pub mod Work
pub mod Cited
