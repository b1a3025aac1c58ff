pub mod CheckLemmas
pub mod ReturnedLemmas
pub mod EveryCodeLemmas
pub mod PlainLemmas
pub mod CarriedLemmas
pub mod NakLemmas
pub mod PassingLemmas
pub mod PassingLawLemmas
