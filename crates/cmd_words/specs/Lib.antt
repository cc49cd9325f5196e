-- The definitions of the words.
pub mod Words
pub mod Usage
