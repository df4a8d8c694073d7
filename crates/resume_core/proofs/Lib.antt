pub mod MarkLemmas
pub mod SourceLemmas
