pub mod ReadingLemmas
pub mod RoomLemmas
