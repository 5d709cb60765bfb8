pub mod Runs
pub mod Lines
pub mod WellFormed
pub mod Counts
pub mod Writes
pub mod Answers
pub mod Back
pub mod MendedLines
pub mod RoundTrip
pub mod Theorems
mod Worked
pub mod Unique
