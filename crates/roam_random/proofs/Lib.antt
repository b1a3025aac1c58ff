pub mod WordLemmas
pub mod OctetLemmas
mod StandardFacts
