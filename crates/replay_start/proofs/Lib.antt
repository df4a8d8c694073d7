pub mod FaultLemmas
pub mod LabelLemmas
pub mod ScanLemmas
pub mod StageLemmas
