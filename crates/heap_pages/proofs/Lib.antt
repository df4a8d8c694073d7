pub mod NewTupleLemmas
pub mod BodyLemmas
pub mod LineLemmas
pub mod PlaceLemmas
pub mod UpdateLemmas
