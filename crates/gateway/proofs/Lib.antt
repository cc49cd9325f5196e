-- Lemmas of the program, a file a subject.
pub mod FeedLemmas
pub mod WatchedLemmas
pub mod ServeLemmas
pub mod CleanLemmas
pub mod EndLemmas
pub mod FollowRuns
pub mod FollowServes
pub mod KnownLemmas
pub mod Crossing
