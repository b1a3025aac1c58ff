pub mod LabelLemmas
pub mod PageLemmas
pub mod FitLemmas
