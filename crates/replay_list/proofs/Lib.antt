pub mod AreaLemmas
pub mod FaultLemmas
pub mod FrontLemmas
pub mod LawLemmas
pub mod LineBackLemmas
pub mod LineReadLemmas
pub mod OrderLemmas
pub mod WriteLemmas
