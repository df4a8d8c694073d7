pub mod KindLemmas
pub mod StorageLemmas
pub mod EffectLemmas
pub mod RecordLemmas
