pub mod Rfc3629
pub mod Characters
pub mod Cited
pub mod Theorems
