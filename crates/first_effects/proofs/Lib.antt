pub mod NameLemmas
pub mod CutLemmas
pub mod LeastLemmas
pub mod PlaceLemmas
pub mod GatherLemmas
pub mod EffectLemmas
pub mod LawLemmas
