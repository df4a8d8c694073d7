pub mod BrokenLemmas
pub mod LaidLemmas
pub mod OrderLemmas
pub mod PutLemmas
pub mod SpliceLemmas
