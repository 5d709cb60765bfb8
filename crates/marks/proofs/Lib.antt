pub mod Laws
pub mod Marking
pub mod Gaps
pub mod Spelled
