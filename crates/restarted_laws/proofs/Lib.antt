pub mod TurnedLemmas
pub mod ReferenceLemmas
pub mod AgainLemmas
pub mod FileLemmas
pub mod EndLemmas
pub mod UnchangedLemmas
