-- The laws that the proofs of `demerits` cite.
pub mod Rounding
pub mod Operations
pub mod Whole
pub mod Pattern
pub mod Sign
pub mod Ratios
pub mod Terms
