pub mod CarryLemmas
pub mod FormLemmas
pub mod StayLemmas
