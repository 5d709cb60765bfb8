pub mod Laws
pub mod Answers
pub mod Values
pub mod Theorems
