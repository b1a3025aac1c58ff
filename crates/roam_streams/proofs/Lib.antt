pub mod CuttingLemmas
pub mod RunLemmas
pub mod WaitLemmas
pub mod RequestLemmas
