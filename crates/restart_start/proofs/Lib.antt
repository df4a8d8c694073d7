pub mod GatherLemmas
pub mod StartLemmas
