-- Words that the theorems of rudignals/proofs/NothingLost use.
pub mod NextMail
