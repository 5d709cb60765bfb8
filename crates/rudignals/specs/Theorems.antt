-- Words that the theorems of proofs/NothingLost use.
pub mod LineEnds
pub mod Width
pub mod Parts
