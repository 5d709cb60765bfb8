-- The words of theorems.
pub mod LineFeeds
pub mod Ends
