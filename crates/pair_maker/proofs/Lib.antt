pub mod RoomLemmas
pub mod PutLemmas
pub mod BlockLemmas
pub mod LogLemmas
pub mod ControlLemmas
pub mod EntryLemmas
pub mod StandLemmas
pub mod MadeLemmas
