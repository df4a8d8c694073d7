pub mod NamedLemmas
pub mod PartLemmas
pub mod FindLemmas
pub mod ListLemmas
pub mod FoundLemmas
pub mod LeastLemmas
pub mod LawLemmas
