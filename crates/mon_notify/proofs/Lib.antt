-- Lemmas, a file a subject.
pub mod Matching
pub mod Told
pub mod Least
