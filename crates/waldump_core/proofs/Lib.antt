pub mod BlockLemmas
pub mod LineLemmas
pub mod ListLemmas
pub mod PlaceLemmas
pub mod SinkLemmas
pub mod StepLemmas
pub mod WalkLemmas
