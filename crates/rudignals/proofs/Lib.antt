pub mod Boundary
pub mod Order
pub mod Width
pub mod Checked
pub mod LineEnds
pub mod Undamaged
pub mod Gaps
pub mod Indexed
pub mod PieceStarts
pub mod Windows
mod Filling
pub mod Mailed
pub mod Numbers
pub mod Mended
pub mod Explained
pub mod NothingLost
pub mod Unique
mod Worked
