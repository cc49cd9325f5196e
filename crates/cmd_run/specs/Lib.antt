-- The definitions of what a run prints.
pub mod Endings
pub mod Causes
pub mod Senders
