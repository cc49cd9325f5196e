-- The lemmas of the queue.
pub mod Lists
mod Steps
mod Senders
mod Takers
