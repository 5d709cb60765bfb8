pub mod Lines
pub mod Paragraphs
pub mod Texts
pub mod Puts
pub mod Answers
pub mod Unique
