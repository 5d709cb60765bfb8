pub mod Plains
pub mod Stays
pub mod Rows
pub mod Texts
pub mod Answers
pub mod Reading
pub mod Theorems
pub mod Unique
