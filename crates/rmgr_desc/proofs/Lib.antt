pub mod ZeroLemmas
pub mod ListLemmas
pub mod NamingLemmas
pub mod DistinctNames
pub mod ShortLemmas
