-- The definitions of a ledger.
pub mod Ledgers
