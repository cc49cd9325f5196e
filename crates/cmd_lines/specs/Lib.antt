-- What the contracts of the crate say, a subject a file.
pub mod Faults
pub mod FirstFault
pub mod Leading
pub mod Reading
pub mod Plain
pub mod Laws
pub mod Items
pub mod Unfinished
pub mod Reader
pub mod Steps
pub mod Skips
