pub mod Prefixes
pub mod EntryLemmas
pub mod Adding
pub mod ListLemmas
pub mod SeatLemmas
pub mod PrefixLemmas
pub mod ReceiptLemmas
pub mod AuditLemmas
