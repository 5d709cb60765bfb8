pub mod Lines
pub mod Mending
pub mod Restoring
pub mod Cited
