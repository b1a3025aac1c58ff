pub mod IdleLemmas
pub mod RunLemmas
