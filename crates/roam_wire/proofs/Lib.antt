pub mod OctetLemmas
pub mod WalkLemmas
pub mod AttributeLemmas
pub mod PacketLemmas
pub mod BuildingLemmas
pub mod ReadingLemmas
pub mod LawLemmas
pub mod KeptLemmas
