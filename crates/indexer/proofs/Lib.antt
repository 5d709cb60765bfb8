pub mod Laws
pub mod Counts
pub mod Reading
pub mod Marking
pub mod Answers
pub mod Follows
mod Worked
pub mod Values
pub mod Unique
