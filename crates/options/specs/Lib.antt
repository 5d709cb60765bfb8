pub mod Opts
pub mod OptionBlock
pub mod Cited
