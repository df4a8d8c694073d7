pub mod WholeLemmas
pub mod ValueLemmas
pub mod SpelledLemmas
pub mod RowLemmas
