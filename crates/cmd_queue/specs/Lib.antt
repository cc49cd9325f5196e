-- The definitions of the queue.
pub mod Lists
pub mod Plans
pub mod Rows
pub mod Messages
pub mod Views
pub mod Rule
pub mod Sides
pub mod Ends
pub mod Queue
pub mod TakenMessage
