pub mod BackLemmas
pub mod LaidLemmas
pub mod AlikeLemmas
pub mod BlockLemmas
pub mod ClosedLemmas
