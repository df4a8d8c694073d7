pub mod MeetLemmas
pub mod LifeLemmas
pub mod SlotLemmas
