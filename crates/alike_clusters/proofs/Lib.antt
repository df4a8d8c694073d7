pub mod NameLemmas
pub mod LikeLemmas
pub mod StepLemmas
pub mod StorageLemmas
pub mod EffectLemmas
