-- Lemmas on lines and their meanings, a file a subject.
pub mod PartLemmas
pub mod TextLemmas
pub mod LineLemmas
pub mod LawLemmas
pub mod NumberLemmas
pub mod PathLemmas
pub mod KnownLemmas
pub mod FollowLemmas
pub mod TimesLemmas
pub mod KnownLineLemmas
pub mod OutputLemmas
