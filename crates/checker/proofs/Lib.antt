pub mod Feeds
mod Decides
pub mod Codes
mod Gaps
pub mod Lines
pub mod Pieces
mod Verdicts
mod Fitting
pub mod Notes
pub mod Theorems
pub mod Spots
mod Scans
mod Rests
pub mod Unique
