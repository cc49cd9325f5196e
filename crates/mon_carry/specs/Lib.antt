-- The world under a new inventory: a file a subject.
pub mod Names
pub mod Carried
pub mod CarryLaws
pub mod Placing
