-- Why the code keeps its contracts: lemmas that several proofs share.
pub mod TableLaws
pub mod ByteLists
pub mod Cuts
pub mod AtOnce
pub mod LineLaws
pub mod DigitLoop
pub mod Numerals
pub mod GrowthLaws
