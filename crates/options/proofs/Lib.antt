pub mod Values
pub mod Fields
pub mod Settled
pub mod Given
pub mod Taken
pub mod Accepted
pub mod Examples
