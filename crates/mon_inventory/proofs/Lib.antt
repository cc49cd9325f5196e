-- The lemmas of the inventory.
pub mod Cuts
pub mod Pushes
pub mod Standing
pub mod Said
pub mod Lookups
pub mod Indexed
pub mod EmptyItems
pub mod Options
pub mod Forms
pub mod Fine
pub mod Contacts
pub mod Lines
pub mod FirstFault
mod WorkedTexts
pub mod Facts
pub mod Settings
pub mod Order
