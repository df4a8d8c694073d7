pub mod LineLemmas
pub mod ReadingLemmas
pub mod ShapeLemmas
pub mod TableLemmas
pub mod TimeLemmas
pub mod TimeTextLemmas
pub mod WritingLemmas
