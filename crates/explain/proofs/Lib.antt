pub mod Asking
pub mod Seeking
pub mod Answers
pub mod Counting
pub mod Values
pub mod LineFeeds
pub mod Ends
mod Worked
