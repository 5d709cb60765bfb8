mod Readings
mod Back
mod Carries
mod Worked
mod Solid
mod SentLines
mod Digest
mod Words
mod Flags
mod Plain
mod Openings
mod Writing
mod Course
mod Answered
pub mod Bound
pub mod Theorems
pub mod Call
pub mod Unique
pub mod Values
