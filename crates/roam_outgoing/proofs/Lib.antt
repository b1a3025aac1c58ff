pub mod CountingLemmas
pub mod SendingLemmas
