-- The text of a monitor's world, and how it is read: a file a subject.
pub mod Causes
pub mod Version
pub mod State
pub mod Upgrade
pub mod Feeds
pub mod File
pub mod Reading
pub mod FileReading
pub mod Cursors
pub mod Faults
pub mod Answers
pub mod FileAnswers
pub mod StateLaws
