pub mod AnswerLemmas
pub mod BelowLemmas
pub mod FoundLemmas
pub mod ListLemmas
pub mod TellLemmas
