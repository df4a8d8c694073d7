pub mod MapLaws
pub mod SequenceLaws
