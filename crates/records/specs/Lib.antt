pub mod Word
pub mod Cited
