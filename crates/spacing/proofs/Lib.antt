pub mod Added
pub mod Laws
pub mod Unique
