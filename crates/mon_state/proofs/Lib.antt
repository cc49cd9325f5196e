-- Lemmas, a file a subject.
pub mod NumberLemmas
pub mod CursorLemmas
pub mod LawLemmas
pub mod VersionLemmas
pub mod LineLemmas
pub mod OwedLemmas
pub mod WholeLemmas
pub mod TextLemmas
pub mod AnswerLemmas
pub mod PlaceLemmas
pub mod FaultLemmas
pub mod FitLemmas
pub mod FeedLemmas
pub mod WritableLemmas
pub mod FileLemmas
pub mod HeadLemmas
pub mod SameLemmas
