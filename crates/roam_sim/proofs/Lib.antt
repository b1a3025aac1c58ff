pub mod FieldLemmas
pub mod PrintingLemmas
pub mod ScriptLemmas
pub mod SimulationLemmas
mod StandardFacts
