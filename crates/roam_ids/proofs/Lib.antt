pub mod NextIdentifierLemmas
pub mod WordLemmas
pub mod SearchLemmas
pub mod LaneLemmas
pub mod WorkedFacts
pub mod LazyLemmas
