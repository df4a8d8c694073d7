pub mod MeantLemmas
pub mod BelowLemmas
pub mod FormLemmas
pub mod MakeLemmas
pub mod StopLemmas
pub mod OverLemmas
