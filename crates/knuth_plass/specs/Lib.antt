pub mod KnuthPlass
pub mod BestLines
pub mod Cited
pub mod Trials
