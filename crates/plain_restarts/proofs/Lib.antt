pub mod ClearedLemmas
pub mod PlainLemmas
pub mod DoneLemmas
pub mod CopyLemmas
pub mod KindLemmas
pub mod RunLemmas
