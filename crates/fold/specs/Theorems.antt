-- Words that the theorems of proofs/Theorems use.
pub mod Rows
