pub mod StayLemmas
pub mod AreaLemmas
pub mod EffectLemmas
pub mod RecordLemmas
pub mod ConvergeLemmas
