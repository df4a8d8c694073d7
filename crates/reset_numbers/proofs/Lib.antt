pub mod ControlLemmas
pub mod NameLemmas
pub mod OptionLemmas
pub mod SegmentLemmas
