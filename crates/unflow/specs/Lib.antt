pub mod Flowed
pub mod Unflow
pub mod Cited
pub mod Trials
