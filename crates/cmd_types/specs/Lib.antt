-- What the contracts of the crate say, a subject a file.
pub mod Names
pub mod Kinds
pub mod Table
pub mod Bytes
pub mod Spelling
pub mod Arguments
pub mod Build
pub mod Entries
pub mod Digits
pub mod Cuts
pub mod Counts
pub mod TextLines
pub mod Laws
pub mod Growth
pub mod Held
