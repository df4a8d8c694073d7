pub mod StepLemmas
pub mod StorageLemmas
pub mod EndLemmas
pub mod EffectLemmas
pub mod RecordLemmas
pub mod SameLemmas
pub mod WholeLemmas
