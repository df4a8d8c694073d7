pub mod TriedLemmas
pub mod AgainLemmas
pub mod StopLemmas
pub mod MarkLemmas
mod OnLiterals
