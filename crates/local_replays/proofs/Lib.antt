pub mod SeenLemmas
pub mod EditLemmas
pub mod PlaceLemmas
pub mod StorageLemmas
pub mod EffectLemmas
pub mod BlockLemmas
pub mod RecordLemmas
