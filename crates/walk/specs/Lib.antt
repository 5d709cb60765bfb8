pub mod Digest
pub mod Work
pub mod Standing
pub mod Cited
