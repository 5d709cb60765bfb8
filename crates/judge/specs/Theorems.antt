-- Words that the theorems about the call use: no part of its definition.
pub mod Looked
