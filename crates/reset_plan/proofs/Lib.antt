pub mod FaultLemmas
pub mod PathLemmas
pub mod PageLemmas
pub mod RemovalLemmas
pub mod ListingLemmas
pub mod StandLemmas
pub mod ReadyLemmas
pub mod PrepareLemmas
