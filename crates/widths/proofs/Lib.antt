pub mod Ranges
pub mod Laws
mod Plain
mod Arms
pub mod Inks
mod Starts
mod Looking
mod Held
mod Numbers
