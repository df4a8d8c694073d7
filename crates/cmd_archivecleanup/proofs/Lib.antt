pub mod PartLemmas
pub mod GoneLemmas
pub mod PlanLemmas
pub mod RemovalLemmas
pub mod RanLemmas
pub mod FormLemmas
pub mod LeftLemmas
pub mod LawLemmas
