pub mod Walk
pub mod Runs
pub mod Coded
pub mod Theorems
pub mod Trials
