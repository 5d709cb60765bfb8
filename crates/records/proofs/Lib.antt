pub mod Table
pub mod Marks
pub mod Unique
