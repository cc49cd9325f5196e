-- The definitions of the inventory.
pub mod Cause
pub mod Lists
pub mod Texts
pub mod Line
pub mod Lookups
pub mod Configuration
pub mod Facts
pub mod Order
pub mod Read
pub mod Names
pub mod Index
pub mod Seen
