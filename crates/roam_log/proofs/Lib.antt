pub mod LineLemmas
pub mod PlainLemmas
pub mod PrintableLemmas
pub mod QuotedLemmas
pub mod RowLemmas
pub mod StationLemmas
pub mod ValueLemmas
