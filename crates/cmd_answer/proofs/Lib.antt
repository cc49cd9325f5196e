-- Lemmas on the texts and the stops of a call, a file a subject.
pub mod Divides
pub mod SenderLemmas
pub mod BundleLemmas
pub mod StopLemmas
pub mod WrittenLemmas
