mod Counts
mod Rows
mod Signs
mod Turns
pub mod Panels
mod Alone
mod Fillers
mod Pluses
mod Worked
