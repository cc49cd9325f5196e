-- The definitions of live operation.
pub mod Runs
pub mod Directory
pub mod Reading
pub mod NewInventories
pub mod PipeTexts
pub mod ToldLines
