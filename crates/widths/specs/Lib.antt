pub mod Ranges
pub mod Table
pub mod Widths
pub mod WhiteSpace
pub mod Cited
