pub mod MapPage
pub mod SequencePage
