pub mod ActSteps
pub mod LeadLemmas
pub mod PrintLemmas
pub mod LawLemmas
