-- Words that the theorems on the index use.
pub mod Follows
