pub mod Tables
pub mod Breaking
pub mod Unique
pub mod Streaming
