pub mod BitLemmas
pub mod CoverLemmas
pub mod KindLemmas
pub mod LayoutLemmas
pub mod MarkLemmas
pub mod SetLemmas
pub mod ViewLemmas
