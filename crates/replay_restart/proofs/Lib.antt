pub mod PlaceLemmas
pub mod CallLemmas
pub mod SyncLemmas
pub mod OverLemmas
pub mod TakenLemmas
pub mod ReadyLemmas
pub mod AnewLemmas
pub mod AgainLemmas
