pub mod PlaceLemmas
pub mod BlockLemmas
pub mod ByteLemmas
pub mod KindLemmas
pub mod PairLemmas
pub mod FaultLemmas
pub mod StageLemmas
pub mod ExactLemmas
