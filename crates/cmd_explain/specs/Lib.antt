-- The definitions of what lines mean, in words.
pub mod Parts
pub mod Codes
pub mod Times
pub mod KnownLines
pub mod Words
pub mod Meanings
pub mod Shown
pub mod Explained
pub mod Asked
pub mod Laws
