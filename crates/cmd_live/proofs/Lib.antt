-- Lemmas of live operation, a file a subject.
pub mod FollowLemmas
pub mod ReadingLemmas
pub mod StartLemmas
pub mod ClockLemmas
pub mod PipeLemmas
pub mod ToldLemmas
