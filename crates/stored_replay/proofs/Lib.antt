pub mod ShadowLemmas
pub mod MarkLemmas
