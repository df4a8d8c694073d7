pub mod CarryLemmas
pub mod FormLemmas
pub mod HexSteps
pub mod LineLemmas
pub mod MeantLemmas
pub mod StayLemmas
