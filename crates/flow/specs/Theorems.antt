-- Words that the theorems use.
pub mod ReadBack
