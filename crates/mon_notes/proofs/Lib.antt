-- Lemmas, a file a subject.
mod DropLemmas
mod IdLemmas
mod ListedLemmas
mod RowLemmas
pub mod RestoreLemmas
