-- The definitions of the program.
pub mod Watched
pub mod Answers
pub mod Followed
pub mod Modes
pub mod KnownFeeds
pub mod Renewals
