-- Why the code keeps its contracts: lemmas that several proofs share.
pub mod Pieces
pub mod LeadingLaws
pub mod Each
pub mod Sound
pub mod Whole
pub mod WholeLine
pub mod PlainLaws
pub mod Laws
pub mod PassLaws
pub mod SkipLaws
mod SkippedLaws
mod OneFront
pub mod StandLaws
pub mod ItemLaws
pub mod FaultLaws
mod EndingLaws
mod Canonical
mod FaultIsRead
mod UnfinishedLaws
mod KeptLaws
