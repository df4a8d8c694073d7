pub mod OrderLemmas
pub mod PairLemmas
pub mod PlanLemmas
pub mod MarkLemmas
pub mod OutsideLemmas
