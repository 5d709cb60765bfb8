pub mod Demerits
pub mod Cited
pub mod Trials
