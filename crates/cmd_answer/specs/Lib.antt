-- The definitions of the texts, stops and statuses of a call.
pub mod Parts
pub mod Bundles
pub mod Files
pub mod Printed
pub mod Stops
pub mod Replayed
pub mod Written
pub mod StateStops
pub mod FollowLines
pub mod Counts
pub mod Passing
