pub mod Theorems
pub mod Trials
