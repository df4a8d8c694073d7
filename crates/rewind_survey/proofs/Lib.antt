pub mod FaultLemmas
pub mod WalkLemmas
pub mod GivenLemmas
pub mod StageLemmas
