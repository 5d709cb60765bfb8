pub mod Lookup
pub mod Cited
pub mod Trials
