pub mod CopyLemmas
pub mod StepLemmas
pub mod StopLemmas
