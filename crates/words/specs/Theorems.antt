-- Words that the theorems of rudignals/proofs/NothingLost use.
pub mod Ink
pub mod PlainGap
pub mod Standing
