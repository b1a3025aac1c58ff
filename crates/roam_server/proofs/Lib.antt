pub mod BeginLemmas
pub mod ServedLemmas
