pub mod Fold
pub mod Cited
pub mod Theorems
pub mod Trials
