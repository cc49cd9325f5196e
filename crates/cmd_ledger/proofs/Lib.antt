-- Proofs that a ledger keeps its invariant.
pub mod LedgerLemmas
