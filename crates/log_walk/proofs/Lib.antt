pub mod BackLemmas
pub mod ChainLemmas
pub mod NeededLemmas
pub mod StepLemmas
pub mod TouchLemmas
