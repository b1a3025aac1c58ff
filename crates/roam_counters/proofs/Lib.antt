pub mod ApartLemmas
pub mod OwnCountLemmas
pub mod Places
pub mod SumLemmas
