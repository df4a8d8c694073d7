pub mod TimeTextLemmas
pub mod LabelLemmas
