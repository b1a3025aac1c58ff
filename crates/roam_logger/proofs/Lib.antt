pub mod BadAttributeLemmas
pub mod SaidLemmas
