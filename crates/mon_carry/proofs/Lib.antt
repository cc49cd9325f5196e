-- Lemmas, a file a subject.
pub mod ListLemmas
pub mod NameLemmas
pub mod PlaceLemmas
pub mod PlacingLemmas
pub mod OwedLemmas
pub mod LawLemmas
pub mod OwedLawLemmas
pub mod SavedLemmas
